-- `ledger::Sketch::page_offset` meets its contract. The loop's invariant: o is the offset of page i.
use Rattle.ledger.proofs.Loops.{Offsets}
use Rattle.ledger.proofs.Sketch.page_offset.Given as goal

abbrev pub invariant-loop-i : goal.invariant-loop-i
invariant-loop-i l = Offsets l.self.kinds l.self.pages l.n l.o l.i
