-- `ledger::Sketch::base_of` meets its contract. The loop's invariant: the first i chapters have b pages.
use Rattle.ledger.proofs.Housing.{Based}
use Rattle.ledger.proofs.Sketch.base_of.Given as goal

abbrev pub invariant-loop-i : goal.invariant-loop-i
invariant-loop-i l = Based l.self.kinds l.self.pages l.x l.b l.i
