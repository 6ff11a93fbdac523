-- `names::same_texts` is safe and ends: as many as are asked for.
use Prim.Native.Nat.{◌≤◌, ◌-◌}
use Rattle.vectors_desk.proofs.names.same_texts.Given as goal

abbrev pub invariant-loop-i : goal.invariant-loop-i
invariant-loop-i l = l.i ≤ l.count

abbrev pub decreases-loop-i : goal.decreases-loop-i
decreases-loop-i l = l.count - l.i
