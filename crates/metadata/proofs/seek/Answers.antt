-- `metadata::seek` meets its contract. The loop's invariant: what is left, with so many texts to pass, answers what the whole does.
use Rattle.std.proofs.Common.{rules}
use Rattle.metadata.proofs.Laws.{seeks}
use Rattle.metadata.proofs.seek.Goals as goal
use Rattle.metadata.proofs.seek.Goals.{then-n-eq0-via-then-n-eq0, then-n-eq0-via-else-n-eq0+then-tag-gt-LAST_TAG}

pub returns-then-n-eq0 : goal.returns-then-n-eq0
returns-then-n-eq0 c =
    elim c.then-n-eq0.branch [
      | then-n-eq0-via-then-n-eq0 w ↦ search (rules, seeks)
      | then-n-eq0-via-else-n-eq0+then-tag-gt-LAST_TAG w ↦ search (rules, seeks)
    ]

pub loop-t-init : goal.loop-t-init
loop-t-init c = search (rules, seeks)

pub returns-then-left-eq0 : goal.returns-then-left-eq0
returns-then-left-eq0 c = search (rules, seeks)

pub loop-t-smaller-else-left-eq0 : goal.loop-t-smaller-else-left-eq0
loop-t-smaller-else-left-eq0 c = search (rules, seeks)

pub loop-t-preserved-else-left-eq0 : goal.loop-t-preserved-else-left-eq0
loop-t-preserved-else-left-eq0 c = search (rules, seeks)

pub loop-t-smaller : goal.loop-t-smaller
loop-t-smaller c = search (rules, seeks)

pub loop-t-preserved : goal.loop-t-preserved
loop-t-preserved c = search (rules, seeks)

pub returns : goal.returns
returns c = let h = c.in_default.not-Text in search (rules, seeks)
