-- `retrace::named::is_named` meets its contract. The loop's invariant: it is known whether the first i words are named.
use Rattle.retrace.proofs.Fills.{Words}
use Rattle.retrace.proofs.named.is_named.Given as goal

abbrev pub invariant-loop-i : goal.invariant-loop-i
invariant-loop-i l = Words l.zeros l.ones l.p l.named l.i
