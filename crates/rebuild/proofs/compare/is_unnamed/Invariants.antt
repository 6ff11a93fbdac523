-- `rebuild::compare::is_unnamed` meets its contract. The loop's invariant: it is known whether none of the first i words is named.
use Rattle.rebuild.proofs.Loops.{Unnamed}
use Rattle.rebuild.proofs.compare.is_unnamed.Given as goal

abbrev pub invariant-loop-i : goal.invariant-loop-i
invariant-loop-i l = Unnamed l.zeros l.ones l.p l.unnamed l.i
