-- `flash::readable` meets its contract: its two tests are those of `readable`.
use Rattle.std.proofs.Common.{rules}
use Rattle.basics.specs.Laws.Tests.{tests}
use Rattle.flash.specs.Flash.{readable}
use Rattle.flash.proofs.readable.Goals as goal

pub returns-then-row_lent : goal.returns-then-row_lent
unfolding readable
returns-then-row_lent c = search (rules, tests)

pub returns-else-row_lent : goal.returns-else-row_lent
unfolding readable
returns-else-row_lent c = search (rules, tests)
