-- `layout::held::held_at` meets its contract.
use borrow.Author.Rules.{rules}
use Rattle.layout.proofs.Holding.{held_none, held_some}
use Rattle.layout.proofs.held.held_at.Goals as goal

pub returns-then-from-p : goal.returns-then-from-p
returns-then-from-p c = search (rules, held_none)

pub returns : goal.returns
returns c = search (rules, held_some)
