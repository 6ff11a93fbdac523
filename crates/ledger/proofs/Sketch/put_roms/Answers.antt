-- `ledger::Sketch::put_roms` meets its contract. The loop's invariant: the words of ROM of the first p paragraphs are written.
use borrow.Author.Rules.{rules}
use Rattle.ledger.proofs.Bins.{rom_none, rom_more, rom_off, rom_all, rom_length, rom_room}
use Rattle.ledger.proofs.Sketch.put_roms.Goals as goal
use Rattle.ledger.proofs.Sketch.put_roms.Goals.{then-self-p-eq1, else-self-p-eq1}

pub loop-p-init : goal.loop-p-init
loop-p-init c = search (rules, rom_none)

pub loop-p-preserved : goal.loop-p-preserved
loop-p-preserved c = elim c.if-self-p-eq1.branch [ then-self-p-eq1 w ↦ search (rules, rom_more) | else-self-p-eq1 w ↦ search (rules, rom_off) ]

pub returns-clause-length : goal.returns-clause-length
returns-clause-length c = search (rules, rom_length)

pub returns-clause-bytes : goal.returns-clause-bytes
returns-clause-bytes c = search (rules, rom_all)

pub slice_bounds-put_words-end : goal.slice_bounds-put_words-end
slice_bounds-put_words-end c = search (rules, rom_room)
