-- `writes::marks_of` is safe and ends: there are 2,048 marks.
use Prim.Native.Nat.{◌≤◌, ◌-◌}
use mathlib.Core.Path.{◌≡◌}
use lib.ListN.{length}
use Rattle.vectors.proofs.writes.marks_of.Given as goal

abbrev pub invariant-loop-p : goal.invariant-loop-p
invariant-loop-p l = (l.p ≤ 2048) × (length l.marks ≡ 2048)

abbrev pub decreases-loop-p : goal.decreases-loop-p
decreases-loop-p l = 2048 - l.p
