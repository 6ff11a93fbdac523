-- `accesses::write_line` meets its contract: the line is spelt otherwise before the address or before the value, or one of its numbers has no four
-- digits, or it says a write.
use borrow.Author.Rules.{rules}
use Rattle.accesses.proofs.Lines.{write_other, write_third, write_first, write_second, write_said}
use Rattle.accesses.proofs.write_line.Goals as goal

pub returns-then-not-same_text : goal.returns-then-not-same_text
returns-then-not-same_text c = search (rules, write_other)

pub returns-then-not-same_text-2 : goal.returns-then-not-same_text-2
returns-then-not-same_text-2 c = search (rules, write_third)

pub returns-in_err-at : goal.returns-in_err-at
returns-in_err-at c = search (rules, write_first, c.in_err-at.was)

pub returns-in_err-value : goal.returns-in_err-value
returns-in_err-value c = search (rules, write_second, c.in_ok-at.was, c.in_err-value.was)

pub returns : goal.returns
returns c = search (rules, write_said, c.in_ok-at.was, c.in_ok-value.was)
