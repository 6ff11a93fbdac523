-- `sums::tables` meets its contract. The invariant: the first i entries stand; each that comes is a byte's step from the one 256 before it.
use Prim.Native.Nat.{◌≤◌, ◌-◌}
use Rattle.sums.proofs.Laws.{Tabled}
use Rattle.sums.specs.Tables.{table_entries}
use Rattle.sums.proofs.tables.Given as goal

abbrev pub invariant-loop-i : goal.invariant-loop-i
invariant-loop-i l = (256 ≤ l.i) × ((l.i ≤ table_entries) × Tabled l.p l.i l.t)

abbrev pub decreases-loop-i : goal.decreases-loop-i
decreases-loop-i l = table_entries - l.i
