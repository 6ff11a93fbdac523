-- `ledger::Sketch::rom_lines` meets its contract. The loop's invariant: the lines of ROM of the first p paragraphs are found.
use borrow.Author.Rules.{rules}
use Rattle.ledger.proofs.Gathers.{roms_more, roms_none, roms_off}
use Rattle.ledger.proofs.Sketch.rom_lines.Goals as goal
use Rattle.ledger.proofs.Sketch.rom_lines.Goals.{then-starts_rom, else-starts_rom}

pub loop-p-init : goal.loop-p-init
loop-p-init c = search (rules, roms_none)

pub loop-p-preserved : goal.loop-p-preserved
loop-p-preserved c = elim c.if-starts_rom.branch [ then-starts_rom w ↦ search (rules, roms_more) | else-starts_rom w ↦ search (rules, roms_off) ]
