-- `jlp::function_of` meets its contract: a product or a quotient, by the number of the function.
use borrow.Author.Rules.{rules}
use Rattle.jlp.proofs.Laws.{product_row, quotient_row}
use Rattle.jlp.proofs.function_of.Goals as goal

pub returns-then-n-lt4 : goal.returns-then-n-lt4
returns-then-n-lt4 c = search (rules, product_row)

pub returns : goal.returns
returns c = search (rules, quotient_row)
