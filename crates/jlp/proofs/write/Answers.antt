-- `jlp::write` meets its contract: the word that turns on, and any other write while off and while on.
use borrow.Author.Rules.{rules}
use Rattle.jlp.proofs.Laws.{write_turns, write_off, write_on}
use Rattle.jlp.proofs.write.Goals as goal

pub returns-then-turns_on : goal.returns-then-turns_on
returns-then-turns_on c = search (rules, write_turns)

pub returns-then-not-j : goal.returns-then-not-j
returns-then-not-j c = search (rules, write_off)

pub returns : goal.returns
returns c = search (rules, write_on)
