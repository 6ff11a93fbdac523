-- `ledger::Sketch::with_rams` meets its contract. The loop's invariant: the lines of RAM of the first p paragraphs are found.
use Rattle.ledger.proofs.Gathers.{Rams}
use Rattle.ledger.proofs.Sketch.with_rams.Given as goal

abbrev pub invariant-loop-p : goal.invariant-loop-p
invariant-loop-p l = Rams l.self.kinds l.self.pages l.names l.f l.p
