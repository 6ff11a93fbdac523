-- `ledger::Sketch::with_pages` meets its contract. The loop's invariant: the lines of the first n pages are found.
use borrow.Author.Rules.{rules}
use Rattle.ledger.proofs.Gathers.{pages_more, pages_none, pages_off}
use Rattle.ledger.proofs.Sketch.with_pages.Goals as goal
use Rattle.ledger.proofs.Sketch.with_pages.Goals.{then-self-n, else-self-n}

pub loop-n-init : goal.loop-n-init
loop-n-init c = search (rules, pages_none)

pub loop-n-preserved : goal.loop-n-preserved
loop-n-preserved c = elim c.if-self-n.branch [ then-self-n w ↦ search (rules, pages_more) | else-self-n w ↦ search (rules, pages_off) ]
