-- `flash::ram_lent` meets its contract: its tests are those of `ram_lent`.
use Rattle.std.proofs.Common.{rules}
use Rattle.basics.specs.Laws.Tests.{tests}
use Rattle.flash.specs.Flash.{ram_lent}
use Rattle.flash.proofs.ram_lent.Goals as goal

pub returns-then-a-2 : goal.returns-then-a-2
unfolding ram_lent
returns-then-a-2 c = search (rules, tests)

pub returns-else-a-2 : goal.returns-else-a-2
unfolding ram_lent
returns-else-a-2 c = search (rules, tests)
