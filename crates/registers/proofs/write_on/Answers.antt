-- `registers::write_on` meets its contract: the word that turns off, an operand, and any other write.
use borrow.Author.Rules.{rules}
use Rattle.registers.proofs.Laws.{operand_from, operand_below, on_off, on_operand, on_other}
use Rattle.registers.proofs.write_on.Goals as goal

pub returns-then-turns_off : goal.returns-then-turns_off
returns-then-turns_off c = search (rules, on_off)

pub overflow_sub-at : goal.overflow_sub-at
overflow_sub-at c = search (rules, operand_from)

pub operate-requires : goal.operate-requires
operate-requires c = search (rules, operand_below)

pub returns-then-is_operand : goal.returns-then-is_operand
returns-then-is_operand c = search (rules, on_operand)

pub returns : goal.returns
returns c = search (rules, on_other)
