-- `ledger::Sketch::base_of` meets its contract. The loop's invariant: the first i chapters have b pages.
use borrow.Author.Rules.{rules}
use Rattle.ledger.proofs.Housing.{based_none, based_more}
use Rattle.ledger.proofs.Sketch.base_of.Goals as goal

pub loop-i-init : goal.loop-i-init
loop-i-init c = search (rules, based_none)

pub loop-i-preserved : goal.loop-i-preserved
loop-i-preserved c = search (rules, based_more)
