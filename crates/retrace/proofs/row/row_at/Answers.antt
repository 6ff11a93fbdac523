-- `retrace::row::row_at` meets its contract, by what its callees ensure.
use borrow.Author.Rules.{rules}
use Rattle.retrace.proofs.Rows.{shown_is}
use Rattle.retrace.proofs.row.row_at.Goals as goal

pub returns : goal.returns
returns c = search (rules, shown_is)
