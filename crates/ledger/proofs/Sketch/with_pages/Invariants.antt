-- `ledger::Sketch::with_pages` meets its contract. The loop's invariant: the lines of the first n pages are found.
use Rattle.ledger.proofs.Gathers.{Pages}
use Rattle.ledger.proofs.Sketch.with_pages.Given as goal

abbrev pub invariant-loop-n : goal.invariant-loop-n
invariant-loop-n l = Pages l.self.kinds l.self.pages l.f l.n
