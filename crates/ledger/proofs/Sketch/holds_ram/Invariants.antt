-- `ledger::Sketch::holds_ram` meets its contract. The loop's invariant: it is known whether one of the first x chapters has RAM there.
use Rattle.places.specs.Limits.{chapters}
use Rattle.basics.specs.Laws.Joined.{Somewhere}
use Rattle.ledger.proofs.Housing.{ram_in}
use Rattle.ledger.proofs.Sketch.holds_ram.Given as goal

abbrev pub invariant-loop-x : goal.invariant-loop-x
invariant-loop-x l = Somewhere chapters (ram_in l.self.kinds l.self.pages l.p) l.x l.held
