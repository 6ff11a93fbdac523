-- `save::put_hunk` meets its contract: the payload in its part, then the frame.
use borrow.Author.Rules.{rules}
use Rattle.save.proofs.Laws.{hunk_placed}
use Rattle.save.proofs.put_hunk.Goals as goal

pub returns : goal.returns
returns c = search (rules, hunk_placed)
