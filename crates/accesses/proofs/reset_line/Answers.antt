-- `accesses::reset_line` meets its contract: the line is `op=x`, or malformed.
use borrow.Author.Rules.{rules}
use Rattle.accesses.proofs.Lines.{reset_said, reset_none}
use Rattle.accesses.proofs.reset_line.Goals as goal

pub returns-then-same_text : goal.returns-then-same_text
returns-then-same_text c = search (rules, reset_said)

pub returns : goal.returns
returns c = search (rules, reset_none)
