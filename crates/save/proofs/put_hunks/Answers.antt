-- `save::put_hunks` meets its contract. The loop's invariant: the blocks of the marked paragraphs below p are written.
use borrow.Author.Rules.{rules}
use Rattle.save.proofs.Loops.{mark_none, mark_room, mark_on, mark_off, mark_last, mark_same, mark_end}
use Rattle.save.proofs.put_hunks.Goals.{then-marks-p, else-marks-p}
use Rattle.save.proofs.put_hunks.Goals as goal

pub loop-p-init : goal.loop-p-init
loop-p-init c = search (rules, mark_none)

pub slice_bounds-put_hunk-end : goal.slice_bounds-put_hunk-end
slice_bounds-put_hunk-end c = search (rules, mark_room)

pub loop-p-preserved : goal.loop-p-preserved
loop-p-preserved c =
    elim c.if-marks-p.branch [
      | then-marks-p w ↦ rw (w.out-is, w.at-is) (search (rules, mark_on))
      | else-marks-p w ↦ rw (w.out-is, w.at-is) (search (rules, mark_off))
    ]

pub bounds-out-at : goal.bounds-out-at
bounds-out-at c = search (rules, mark_last)

pub shape_of-out : goal.shape_of-out
shape_of-out c = search (rules, mark_same)

pub returns : goal.returns
returns c = search (rules, mark_end)
