-- `ledger::Sketch::with_rams` meets its contract. The loop's invariant: the lines of RAM of the first p paragraphs are found.
use borrow.Author.Rules.{rules}
use Rattle.ledger.proofs.Gathers.{rams_more, rams_none, rams_off}
use Rattle.ledger.proofs.Sketch.with_rams.Goals as goal
use Rattle.ledger.proofs.Sketch.with_rams.Goals.{then-starts_ram, else-starts_ram}

pub loop-p-init : goal.loop-p-init
loop-p-init c = search (rules, rams_none)

pub loop-p-preserved : goal.loop-p-preserved
loop-p-preserved c = elim c.if-starts_ram.branch [ then-starts_ram w ↦ search (rules, rams_more) | else-starts_ram w ↦ search (rules, rams_off) ]
