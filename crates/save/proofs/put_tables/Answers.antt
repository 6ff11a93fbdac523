-- `save::put_tables` meets its contract: the payload in its part, then the frame.
use borrow.Author.Rules.{rules}
use Rattle.blocks.specs.Laws.Payloads.{block_placed}
use Rattle.save.proofs.put_tables.Goals as goal

pub returns : goal.returns
returns c = search (rules, block_placed)
