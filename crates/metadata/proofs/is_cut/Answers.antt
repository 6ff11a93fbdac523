-- `metadata::is_cut` meets its contract. The loop's invariant: whole sub-records stand before p.
use Rattle.metadata.proofs.Laws.{checks}
use borrow.Author.Rules.{rules}
use Rattle.metadata.proofs.is_cut.Goals as goal

pub loop-text-init : goal.loop-text-init
loop-text-init c = search (rules, checks)

pub returns-in-End : goal.returns-in-End
returns-in-End c = search (rules, checks)

pub returns-in-Cut : goal.returns-in-Cut
returns-in-Cut c = search (rules, checks)

pub loop-text-smaller : goal.loop-text-smaller
loop-text-smaller c = search (rules, checks)

pub loop-text-preserved : goal.loop-text-preserved
loop-text-preserved c = search (rules, checks)
