-- `jlp::arith::multiply` meets its contract.
use borrow.Author.Rules.{rules}
use Rattle.jlp.proofs.Laws.{multiply_is}
use Rattle.jlp.proofs.arith.multiply.Goals as goal

pub returns : goal.returns
returns c = search (rules, multiply_is)
