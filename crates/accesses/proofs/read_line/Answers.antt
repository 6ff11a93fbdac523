-- `accesses::read_line` meets its contract: the line is spelt otherwise, or has no four digits, or says a read.
use borrow.Author.Rules.{rules}
use Rattle.accesses.proofs.Lines.{read_other, read_said, read_none}
use Rattle.accesses.proofs.read_line.Goals as goal

pub returns-then-not-same_text : goal.returns-then-not-same_text
returns-then-not-same_text c = search (rules, read_other)

pub returns-in_err-at : goal.returns-in_err-at
returns-in_err-at c = search (rules, read_none, c.in_err-at.was)

pub returns : goal.returns
returns c = search (rules, read_said, c.in_ok-at.was)
