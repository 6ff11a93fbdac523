-- `hunk::stores::packets` meets its contract. The loop's invariant: the decles of j packets are laid.
use borrow.Author.Rules.{rules}
use Rattle.basics.specs.Laws.Lists.{laid_none}
use Rattle.hunk.proofs.Stored.{packed_turn}
use Rattle.hunk.proofs.stores.packets.Goals as goal

pub loop-j-init : goal.loop-j-init
loop-j-init c = search (rules, laid_none)

pub loop-j-preserved : goal.loop-j-preserved
loop-j-preserved c = search (rules, packed_turn)
