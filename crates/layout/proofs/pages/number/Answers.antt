-- `layout::pages::number` meets its contract. The loop's invariant: the first s slots are numbered.
use borrow.Author.Rules.{rules}
use Rattle.layout.proofs.Numbering.{numbering_none, numbering_used, numbering_free, numbering_all}
use Rattle.layout.proofs.pages.number.Goals.{then-used-s, else-used-s}
use Rattle.layout.proofs.pages.number.Goals as goal

pub loop-s-init : goal.loop-s-init
loop-s-init c = search (rules, numbering_none)

pub loop-s-preserved : goal.loop-s-preserved
loop-s-preserved c =
    let inv = c.loop-s.invariant in
    let below = c.loop-s-test.true in
    elim c.if-used-s.branch [
      | then-used-s w ↦ rw (w.slot-is, w.n-is, w.from.ensures) (numbering_used _ _ _ _ _ inv below w.if-used-s.true)
      | else-used-s w ↦ rw (w.slot-is, w.n-is) (numbering_free _ _ _ _ _ inv below w.if-used-s.false)
    ]

pub returns : goal.returns
returns c = numbering_all _ _ _ _ _ c.loop-s.invariant c.loop-s-test.false
