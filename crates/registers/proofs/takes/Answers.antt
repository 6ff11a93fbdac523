-- `registers::takes` meets its contract: outside of the window, while on, and while off.
use borrow.Author.Rules.{rules}
use Rattle.registers.proofs.Laws.{taken}
use Rattle.registers.proofs.takes.Goals as goal

pub returns-then-is_on : goal.returns-then-is_on
returns-then-is_on c = search (rules, taken)

pub returns-else-is_on : goal.returns-else-is_on
returns-else-is_on c = search (rules, taken)

pub returns-else-in_window : goal.returns-else-in_window
returns-else-in_window c = search (rules, taken)
