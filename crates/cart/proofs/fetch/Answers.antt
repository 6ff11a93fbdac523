-- `cart::fetch` meets its contract: the cell is shut, or past the words lent, or open.
use Rattle.std.proofs.Common.{rules}
use Rattle.basics.specs.Laws.Tests.{tests}
use Rattle.cart.specs.Reads.{fetched}
use Rattle.cart.proofs.fetch.Goals as goal

pub returns-then-i-lent_words : goal.returns-then-i-lent_words
unfolding fetched
returns-then-i-lent_words c = search (rules, tests)

pub returns-else-cell : goal.returns-else-cell
unfolding fetched
returns-else-cell c = search (rules, tests)
