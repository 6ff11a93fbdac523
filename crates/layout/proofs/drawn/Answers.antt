-- `layout::drawn` meets its contract, by what its callees ensure.
use borrow.Author.Rules.{rules}
use Rattle.layout.proofs.Drafts.{drawn_as}
use Rattle.layout.proofs.drawn.Goals as goal

pub returns : goal.returns
returns c = search (rules, drawn_as)
