-- `registers::write` meets its contract: the word that turns on, and any other write while on and while off.
use borrow.Author.Rules.{rules}
use Rattle.registers.specs.Laws.Words.{tidy_now}
use Rattle.registers.proofs.Laws.{write_turns, write_off, write_on}
use Rattle.registers.proofs.write.Goals as goal

pub returns-then-turns_on : goal.returns-then-turns_on
returns-then-turns_on c = search (rules, write_turns)

pub write_on-requires : goal.write_on-requires
write_on-requires c = search (rules, tidy_now)

pub returns-then-is_on : goal.returns-then-is_on
returns-then-is_on c = search (rules, write_on)

pub returns-else-is_on : goal.returns-else-is_on
returns-else-is_on c = search (rules, write_off)
