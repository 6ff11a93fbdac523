-- `accesses::says_at` meets its contract: the line is cut, and read.
use borrow.Author.Rules.{rules}
use Rattle.accesses.proofs.Lines.{said_at, line_within}
use Rattle.accesses.proofs.says_at.Goals as goal

pub returns : goal.returns
returns c = search (rules, said_at)

pub slice_bounds-line_says-end : goal.slice_bounds-line_says-end
slice_bounds-line_says-end c = search (rules, line_within)
