-- `names::tell` is safe and ends: no more blocks than bytes.
use Prim.Native.Nat.{◌≤◌, ◌-◌}
use lib.ListN.{length}
use Rattle.vectors_desk.proofs.names.tell.Given as goal

abbrev pub invariant-loop-i : goal.invariant-loop-i
invariant-loop-i l = l.i ≤ length l.image

abbrev pub decreases-loop-i : goal.decreases-loop-i
decreases-loop-i l = length l.image - l.i
