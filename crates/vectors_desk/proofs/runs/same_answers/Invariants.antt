-- `runs::same_answers` is safe and ends: as many as there are answers.
use Prim.Native.Nat.{◌≤◌, ◌-◌}
use lib.ListN.{length}
use Rattle.vectors_desk.proofs.runs.same_answers.Given as goal

abbrev pub invariant-loop-i : goal.invariant-loop-i
invariant-loop-i l = l.i ≤ length l.answers

abbrev pub decreases-loop-i : goal.decreases-loop-i
decreases-loop-i l = length l.answers - l.i
