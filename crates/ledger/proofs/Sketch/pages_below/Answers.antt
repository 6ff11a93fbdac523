-- `ledger::Sketch::pages_below` meets its contract. The loop's invariant: n of the first i pages are there.
use borrow.Author.Rules.{rules}
use Rattle.ledger.proofs.Housing.{below_none, below_more, below_all, below_few}
use Rattle.ledger.proofs.Sketch.pages_below.Goals as goal

pub loop-i-init : goal.loop-i-init
loop-i-init c = search (rules, below_none)

pub loop-i-preserved : goal.loop-i-preserved
loop-i-preserved c = search (rules, below_more)

pub returns : goal.returns
returns c = search (rules, below_all, below_few)
