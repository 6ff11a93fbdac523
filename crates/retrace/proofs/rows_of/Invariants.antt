-- `retrace::rows_of` meets its contract. The loop's invariant: the rows of the first x chapters are there, which have b pages.
use Rattle.retrace.proofs.Fills.{Rows}
use Rattle.retrace.proofs.rows_of.Given as goal

abbrev pub invariant-loop-x : goal.invariant-loop-x
invariant-loop-x l = Rows l.permissions l.flips l.marks l.rows l.b l.x
