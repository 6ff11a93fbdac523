-- `switches::flip` meets its contract. The loop's invariant: the flip has come to paragraph k in both tables.
use Rattle.std.proofs.Common.{rules}
use Rattle.switches.specs.Laws.Flips.{turning_none, turning_more, turning_done}
use Rattle.switches.proofs.flip.Goals as goal

pub loop-k-init : goal.loop-k-init
loop-k-init c = search (rules, turning_none)

pub loop-k-preserved : goal.loop-k-preserved
loop-k-preserved c = search (rules, turning_more)

pub returns : goal.returns
returns c = search (rules, turning_done)
