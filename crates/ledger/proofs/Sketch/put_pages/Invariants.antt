-- `ledger::Sketch::put_pages` meets its contract. The loop's invariant: the words of the first n pages are written.
use Rattle.ledger.proofs.Bins.{PagePieces}
use Rattle.ledger.proofs.Sketch.put_pages.Given as goal

abbrev pub invariant-loop-n : goal.invariant-loop-n
invariant-loop-n l = PagePieces l.self.kinds l.self.pages l.ram l.initial.out l.out l.at l.n
