-- `retrace::row::kind_of` meets its contract: one answer for each value of the test.
use borrow.Author.Rules.{rules}
use Rattle.retrace.proofs.Rows.{kind_paged, kind_plain}
use Rattle.retrace.proofs.row.kind_of.Goals as goal

pub returns-then-first_k-k : goal.returns-then-first_k-k
returns-then-first_k-k c = search (rules, kind_paged)

pub returns : goal.returns
returns c = search (rules, kind_plain)
