-- `registers::remember` meets its contract: word by word.
use borrow.Author.Rules.{rules}
use Rattle.registers.proofs.Laws.{remember_is}
use Rattle.registers.proofs.remember.Goals as goal

pub returns : goal.returns
returns c = search (rules, remember_is)
