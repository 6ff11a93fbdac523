-- `hunk::bodies::put_packets` meets its contract. The loop's invariant: j packets are laid.
use Rattle.basics.specs.Laws.Lists.{laid_none}
use borrow.Author.Rules.{rules}
use Rattle.hunk.proofs.Packed.{packets_turn}
use Rattle.hunk.proofs.bodies.put_packets.Goals as goal

pub loop-j-init : goal.loop-j-init
loop-j-init c = search (rules, laid_none)

pub loop-j-preserved : goal.loop-j-preserved
loop-j-preserved c = search (rules, packets_turn)
