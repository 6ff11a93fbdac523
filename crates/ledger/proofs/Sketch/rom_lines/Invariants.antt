-- `ledger::Sketch::rom_lines` meets its contract. The loop's invariant: the lines of ROM of the first p paragraphs are found.
use Rattle.ledger.proofs.Gathers.{Roms}
use Rattle.ledger.proofs.Sketch.rom_lines.Given as goal

abbrev pub invariant-loop-p : goal.invariant-loop-p
invariant-loop-p l = Roms l.self.kinds l.self.pages l.f l.p
