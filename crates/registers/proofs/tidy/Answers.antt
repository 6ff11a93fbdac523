-- `registers::tidy` meets its contract: the first two words, and no other.
use borrow.Author.Rules.{rules}
use Rattle.registers.specs.Laws.Words.{tidied}
use Rattle.registers.proofs.tidy.Goals as goal

pub returns : goal.returns
returns c = search (rules, tidied)
