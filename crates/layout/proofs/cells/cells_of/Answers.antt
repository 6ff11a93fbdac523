-- `layout::cells::cells_of` meets its contract. The loop's invariant: the cells have the numbers of the first k lines.
use borrow.Author.Rules.{rules}
use Rattle.layout.proofs.Claiming.{numbers_none, numbers_more, numbers_all}
use Rattle.layout.proofs.cells.cells_of.Goals as goal

pub loop-k-init : goal.loop-k-init
loop-k-init c = search (rules, numbers_none)

pub loop-k-preserved : goal.loop-k-preserved
loop-k-preserved c = search (rules, numbers_more)

pub returns : goal.returns
returns c = search (rules, numbers_all)
