-- `accesses::line_says` meets its contract: a line of another length says nothing.
use borrow.Author.Rules.{rules}
use Rattle.accesses.proofs.Lines.{said_none}
use Rattle.accesses.proofs.line_says.Goals as goal

pub returns-in_default : goal.returns-in_default
returns-in_default c = search (rules, said_none)
