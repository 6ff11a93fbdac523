-- `retrace::rows_of` meets its contract. The loop's invariant: the rows of the first x chapters are there, which have b pages.
use borrow.Author.Rules.{rules}
use Rattle.retrace.proofs.Fills.{rows_none, rows_more, rows_all, rows_low}
use Rattle.retrace.proofs.rows_of.Goals as goal

pub loop-x-init : goal.loop-x-init
loop-x-init c = search (rules, rows_none)

pub row_at-s-requires : goal.row_at-s-requires
row_at-s-requires c = search (rules, rows_low)

pub loop-x-preserved : goal.loop-x-preserved
loop-x-preserved c = search (rules, rows_more)

pub returns : goal.returns
returns c = search (rules, rows_all)
