-- `cart::is_silent` meets its contract: its tests are those of `silent`.
use Rattle.std.proofs.Common.{rules}
use Rattle.basics.specs.Laws.Tests.{tests}
use Rattle.cart.specs.Reads.{silent}
use Rattle.cart.proofs.is_silent.Goals as goal

pub returns-then-a-eq1 : goal.returns-then-a-eq1
unfolding silent
returns-then-a-eq1 c = search (rules, tests)

pub returns-else-a-eq1 : goal.returns-else-a-eq1
unfolding silent
returns-else-a-eq1 c = search (rules, tests)
