-- `retrace::row::kind_shown` meets its contract: one answer for each value of the test.
use borrow.Author.Rules.{rules}
use Rattle.retrace.proofs.Rows.{shown_on, shown_off}
use Rattle.retrace.proofs.row.kind_shown.Goals as goal

pub returns-then-is_allowed : goal.returns-then-is_allowed
returns-then-is_allowed c = search (rules, shown_on)

pub returns-else-is_allowed : goal.returns-else-is_allowed
returns-else-is_allowed c = search (rules, shown_off)
