-- `owners::least` meets its contract. The loop's invariant: r is the least of the numbers before place i.
use borrow.Author.Rules.{rules}
use Rattle.owners.proofs.Loops.{least_none, least_more, least_all}
use Rattle.owners.proofs.least.Goals as goal

pub loop-n-init : goal.loop-n-init
loop-n-init c = search (rules, least_none)

pub loop-n-preserved : goal.loop-n-preserved
loop-n-preserved c = search (rules, least_more)

pub returns : goal.returns
returns c = search (rules, least_all)
