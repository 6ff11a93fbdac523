-- `registers::operate` meets its contract: the operand is stored, its function's two are handed over, and the results are laid down.
use borrow.Author.Rules.{rules}
use Rattle.registers.proofs.Laws.{operate_is}
use Rattle.registers.proofs.operate.Goals as goal

pub returns : goal.returns
returns c = search (rules, operate_is)
