-- `flash::row_lent` meets its contract: its two tests are those of `row_lent`.
use Rattle.std.proofs.Common.{rules}
use Rattle.basics.specs.Laws.Tests.{tests}
use Rattle.flash.specs.Flash.{row_lent}
use Rattle.flash.proofs.row_lent.Goals as goal

pub returns-then-in_range : goal.returns-then-in_range
unfolding row_lent
returns-then-in_range c = search (rules, tests)

pub returns-else-in_range : goal.returns-else-in_range
unfolding row_lent
returns-else-in_range c = search (rules, tests)
