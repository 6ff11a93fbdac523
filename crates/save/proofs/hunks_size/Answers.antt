-- `save::hunks_size` meets its contract. The loop's invariant: long is the sum for the marked paragraphs below p.
use borrow.Author.Rules.{rules}
use Rattle.save.proofs.Loops.{sum_none, sum_on, sum_off, sum_end, sum_few}
use Rattle.save.proofs.hunks_size.Goals.{then-marks-p, else-marks-p}
use Rattle.save.proofs.hunks_size.Goals as goal

pub loop-p-init : goal.loop-p-init
loop-p-init c = search (rules, sum_none)

pub loop-p-preserved : goal.loop-p-preserved
loop-p-preserved c =
    elim c.if-marks-p.branch [
      | then-marks-p w ↦ rw w.long-is (search (rules, sum_on))
      | else-marks-p w ↦ rw w.long-is (search (rules, sum_off))
    ]

pub returns : goal.returns
returns c = search (rules, sum_end, sum_few)
