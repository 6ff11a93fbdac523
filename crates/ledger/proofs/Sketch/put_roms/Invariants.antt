-- `ledger::Sketch::put_roms` meets its contract. The loop's invariant: the words of ROM of the first p paragraphs are written.
use Rattle.ledger.proofs.Bins.{RomPieces}
use Rattle.ledger.proofs.Sketch.put_roms.Given as goal

abbrev pub invariant-loop-p : goal.invariant-loop-p
invariant-loop-p l = RomPieces l.self.kinds l.self.pages l.ram l.initial.out l.out l.at l.p
