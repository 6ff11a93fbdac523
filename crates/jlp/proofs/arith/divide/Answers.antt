-- `jlp::arith::divide` meets its contract: by 0, and by a divisor that has a size.
use borrow.Author.Rules.{rules}
use Rattle.jlp.proofs.Laws.{divide_none, divide_some, divisor_some}
use Rattle.jlp.proofs.arith.divide.Goals as goal

pub returns-then-b-eq0 : goal.returns-then-b-eq0
returns-then-b-eq0 c = search (rules, divide_none)

pub quotient-requires : goal.quotient-requires
quotient-requires c = search (rules, divisor_some)

pub returns : goal.returns
returns c = search (rules, divide_some)
