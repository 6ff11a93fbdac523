-- `sums::eights` meets its contract. The invariant: x is the sum of the first n eights.
use Prim.Native.Nat.{◌≤◌, ◌/◌, ◌-◌}
use mathlib.Core.Path.{◌≡◌}
use lib.ListN.{length}
use Rattle.sums.specs.Tables.{by_eights}
use Rattle.sums.proofs.eights.Given as goal

abbrev pub invariant-loop-n : goal.invariant-loop-n
invariant-loop-n l = (l.n ≤ length l.s / 8) × (l.x ≡ by_eights l.t l.c l.s l.n)

abbrev pub decreases-loop-n : goal.decreases-loop-n
decreases-loop-n l = length l.s / 8 - l.n
