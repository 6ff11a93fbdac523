-- `jlp::arith::product` meets its contract: the signs differ, or are one.
use borrow.Author.Rules.{rules}
use Rattle.jlp.proofs.Laws.{product_fits, product_negative, product_positive}
use Rattle.jlp.proofs.arith.product.Goals as goal

pub returns-then-a-b : goal.returns-then-a-b
returns-then-a-b c = search (rules, product_fits, product_negative)

pub returns-else-a-b : goal.returns-else-a-b
returns-else-a-b c = search (rules, product_positive)
