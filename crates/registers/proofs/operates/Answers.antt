-- `registers::operates` meets its contract: one that computes, and off or no operand.
use borrow.Author.Rules.{rules}
use Rattle.registers.specs.Words.{operates}
use Rattle.registers.specs.Laws.Words.{tidy_now}
use Rattle.registers.proofs.Laws.{operand_from, operand_below, operates_off, operates_not, operates_so}
use Rattle.registers.proofs.operates.Goals as goal

pub overflow_sub-at : goal.overflow_sub-at
overflow_sub-at c = search (rules, operand_from)

pub operate-requires : goal.operate-requires
operate-requires c = search (rules, operand_below, tidy_now)

pub returns-then-is_operand : goal.returns-then-is_operand
returns-then-is_operand c =
    operates_so c.args.w.now _ _ _ c.is_on.ensures c.if-is_on.true _ c.is_operand.ensures c.if-is_operand.true _ _ c.tidy.ensures c.operate.ensures

pub returns : goal.returns
unfolding operates
returns c = search (rules, operates_off, operates_not)
