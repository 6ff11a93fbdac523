-- `jlp::arith::quotient` meets its contract.
use borrow.Author.Rules.{rules}
use Rattle.jlp.proofs.Laws.{quotient_is}
use Rattle.jlp.proofs.arith.quotient.Goals as goal

pub returns : goal.returns
returns c = search (rules, quotient_is)
