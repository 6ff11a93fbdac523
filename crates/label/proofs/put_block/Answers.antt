-- `label::put_block` meets its contract: the payload in its part, then the frame.
use Rattle.label.proofs.Laws.{label_placed}
use borrow.Author.Rules.{rules}
use Rattle.label.proofs.put_block.Goals as goal

pub returns : goal.returns
returns c = search (rules, label_placed)
