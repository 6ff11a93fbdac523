-- `exports::luigi_writes` meets its contract. The invariant: the lent tables, the accelerators' words, the RAM, the flash and the numbers are what the first
-- i writes leave.
use Prim.Native.Nat.{◌≤◌, ◌-◌}
use mathlib.Core.Path.{◌≡◌}
use lib.ListN.{length}
use Rattle.registers.specs.Words.{jlp_from}
use Rattle.exports.specs.Laws.Runs.{Ran}
use Rattle.exports.specs.Runs.{carried}
use Rattle.exports.proofs.luigi_writes.Given as goal

abbrev pub invariant-loop-i : goal.invariant-loop-i
invariant-loop-i l =
    (l.i ≤ l.i-end) × (l.i-end ≤ length l.at) × (l.i-end ≤ length l.value) × (l.i-end ≤ length l.initial.assigned) × (length l.ram ≡ length l.initial.ram)
    × (length l.flash ≡ length l.initial.flash) × (length l.assigned ≡ length l.initial.assigned)
    × Ran (carried l.initial.mapping l.initial.permissions l.flips l.initial.readable (jlp_from l.initial.accelerators)) l.initial.ram l.initial.flash
    l.at l.value l.initial.assigned l.i l.mapping l.permissions l.flips l.readable l.accelerators l.ram l.flash l.assigned

abbrev pub decreases-loop-i : goal.decreases-loop-i
decreases-loop-i l = l.i-end - l.i
