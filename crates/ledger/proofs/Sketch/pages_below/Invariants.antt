-- `ledger::Sketch::pages_below` meets its contract. The loop's invariant: n of the first i pages are there.
use Rattle.ledger.proofs.Housing.{Below}
use Rattle.ledger.proofs.Sketch.pages_below.Given as goal

abbrev pub invariant-loop-i : goal.invariant-loop-i
invariant-loop-i l = Below l.self.kinds l.self.pages l.x l.y l.n l.i
