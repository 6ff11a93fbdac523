-- `save::put_front` meets its contract: the header and the tables block, each in its part.
use borrow.Author.Rules.{rules}
use Rattle.save.proofs.Laws.{front_written}
use Rattle.save.proofs.put_front.Goals as goal

pub returns : goal.returns
returns c = search (rules, front_written)
