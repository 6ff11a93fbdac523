-- `jlp::takes` meets its contract: outside of the window, while on, and while off.
use borrow.Author.Rules.{rules}
use Rattle.jlp.proofs.Laws.{takes_outside, takes_on, takes_off}
use Rattle.jlp.proofs.takes.Goals as goal

pub returns-then-j : goal.returns-then-j
returns-then-j c = search (rules, takes_on)

pub returns-else-j : goal.returns-else-j
returns-else-j c = search (rules, takes_off)

pub returns-else-in_window : goal.returns-else-in_window
returns-else-in_window c = search (rules, takes_outside)
