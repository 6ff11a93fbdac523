-- `layout::cells::claim` meets its contract. The loop's invariant: the first p cells of the layer are claimed.
use borrow.Author.Rules.{rules}
use Rattle.layout.proofs.Claiming.{claiming_not, claiming_none, claiming_takes, claiming_past, claiming_owned, claiming_all}
use Rattle.layout.proofs.cells.claim.Goals.{then-numbers-i-eq0+then-holds, else-numbers-i-eq0, else-numbers-i-eq0-via-then-numbers-i-eq0+else-holds, else-numbers-i-eq0-via-else-numbers-i-eq0}
use Rattle.layout.proofs.cells.claim.Goals as goal

pub returns-then-t-ge-LAYERS : goal.returns-then-t-ge-LAYERS
returns-then-t-ge-LAYERS c = search (rules, claiming_not)

pub loop-p-init : goal.loop-p-init
loop-p-init c = search (rules, claiming_none)

pub loop-p-preserved : goal.loop-p-preserved
loop-p-preserved c =
    let inv = c.loop-p.invariant in
    let below = c.loop-p-test.true in
    elim c.if-numbers-i-eq0.branch [
      | then-numbers-i-eq0+then-holds w ↦ claiming_takes _ _ _ _ _ _ inv _ _ below w.if-numbers-i-eq0.true w.holds.ensures w.if-holds.true w.numbers-is
      | else-numbers-i-eq0 w ↦
          elim w.else-numbers-i-eq0.branch [
            | else-numbers-i-eq0-via-then-numbers-i-eq0+else-holds v ↦ claiming_past _ _ _ _ _ _ inv _ _ below v.holds.ensures v.if-holds.false w.numbers-is
            | else-numbers-i-eq0-via-else-numbers-i-eq0 v ↦ claiming_owned _ _ _ _ _ _ inv _ below v.if-numbers-i-eq0.false w.numbers-is
          ]
    ]

pub returns : goal.returns
returns c = search (rules, claiming_all)
