-- `cart::store` meets its contract: the cell is shut, or past the words lent, or open.
use Rattle.std.proofs.Common.{rules}
use Rattle.basics.specs.Laws.Tests.{tests}
use Rattle.cart.specs.Writes.{stored}
use Rattle.cart.proofs.store.Goals as goal

pub returns-then-i-lent_words : goal.returns-then-i-lent_words
unfolding stored
returns-then-i-lent_words c = search (rules, tests)

pub returns-else-cell : goal.returns-else-cell
unfolding stored
returns-else-cell c = search (rules, tests)
