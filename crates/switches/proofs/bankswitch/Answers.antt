-- `switches::bankswitch` meets its contract. The loop's invariant: the first j paragraphs of the half-page have their numbers.
use Rattle.std.proofs.Common.{rules}
use Rattle.basics.specs.Laws.Lists.{laid_none, laid_more}
use Rattle.switches.specs.Laws.Banks.{switched_all}
use Rattle.switches.proofs.bankswitch.Goals as goal

pub loop-j-init : goal.loop-j-init
loop-j-init c = search (rules, laid_none)

pub loop-j-preserved : goal.loop-j-preserved
loop-j-preserved c = search (rules, laid_more)

pub returns : goal.returns
returns c = search (rules, switched_all)
