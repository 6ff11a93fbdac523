-- `sums::first` meets its contract. The invariant: the first i entries stand; in the end these are the first table.
use Prim.Native.Nat.{◌≤◌, ◌-◌}
use Rattle.sums.proofs.Laws.{Tabled}
use Rattle.sums.proofs.first.Given as goal

abbrev pub invariant-loop-i : goal.invariant-loop-i
invariant-loop-i l = (l.i ≤ 256) × Tabled l.p l.i l.t

abbrev pub decreases-loop-i : goal.decreases-loop-i
decreases-loop-i l = 256 - l.i
