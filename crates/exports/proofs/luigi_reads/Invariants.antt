-- `exports::luigi_reads` meets its contract. The invariant: the first i words of `out` are the answers to the first i reads.
use Prim.Native.Nat.{◌≤◌, ◌-◌}
use mathlib.Core.Path.{◌≡◌}
use lib.ListN.{length}
use Rattle.registers.specs.Words.{jlp_from}
use Rattle.exports.specs.Runs.{answered}
use Rattle.exports.proofs.luigi_reads.Given as goal

abbrev pub invariant-loop-i : goal.invariant-loop-i
invariant-loop-i l =
    (l.i ≤ l.i-end) × (l.i-end ≤ length l.at) × (l.i-end ≤ length l.out) × (length l.out ≡ length l.initial.out)
    × (l.out ≡ answered (jlp_from l.accelerators) l.mapping l.permissions l.ram l.at l.i l.initial.out)

abbrev pub decreases-loop-i : goal.decreases-loop-i
decreases-loop-i l = l.i-end - l.i
