-- `save::lowest_past` meets its contract. The loop's invariant: no paragraph below p is what it seeks.
use mathlib.Core.Path.{◌≡◌}
use native.Mathlib.Omega.{arith}
use borrow.Author.Rules.{rules}
use Rattle.basics.specs.Laws.Lowest.{seek_none, seek_hit, seek_more, seek_end}
use Rattle.save.proofs.Laws.{past_hit, past_fits, past_not}
use Rattle.save.proofs.lowest_past.Goals.{else-marks-p-via-then-marks-p+else-n-p, else-marks-p-via-else-marks-p}
use Rattle.save.proofs.lowest_past.Goals as goal

pub loop-p-init : goal.loop-p-init
loop-p-init c = seek_none _ _

pub returns-then-n-p : goal.returns-then-n-p
returns-then-n-p c = search (rules, seek_hit, past_hit)

pub loop-p-preserved : goal.loop-p-preserved
loop-p-preserved c =
    elim c.else-marks-p.branch [
      | else-marks-p-via-then-marks-p+else-n-p w ↦ search (rules, seek_more, past_fits)
      | else-marks-p-via-else-marks-p w ↦ search (rules, seek_more, past_not)
    ]

pub returns : goal.returns
returns c =
    let p : c.loop-p.p ≡ 2048 = omega arith in
    rw (← p) (search (rules, seek_end))
