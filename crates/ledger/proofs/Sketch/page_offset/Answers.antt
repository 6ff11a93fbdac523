-- `ledger::Sketch::page_offset` meets its contract. The loop's invariant: o is the offset of page i.
use borrow.Author.Rules.{rules}
use Rattle.ledger.proofs.Loops.{offsets_none, offsets_more, offsets_off}
use Rattle.ledger.proofs.Sketch.page_offset.Goals as goal
use Rattle.ledger.proofs.Sketch.page_offset.Goals.{then-self-i, else-self-i}

pub loop-i-init : goal.loop-i-init
loop-i-init c = search (rules, offsets_none)

pub loop-i-preserved : goal.loop-i-preserved
loop-i-preserved c = elim c.if-self-i.branch [ then-self-i w ↦ search (rules, offsets_more) | else-self-i w ↦ search (rules, offsets_off) ]
