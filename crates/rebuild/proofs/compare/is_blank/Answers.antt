-- `rebuild::compare::is_blank` meets its contract. The loop's invariant: it is known whether the first i words are zeros.
use borrow.Author.Rules.{rules}
use Rattle.basics.specs.Laws.Joined.{everywhere_none, everywhere_by, everywhere_all}
use Rattle.rebuild.proofs.Loops.{blank_is}
use Rattle.rebuild.proofs.compare.is_blank.Goals as goal

pub loop-i-init : goal.loop-i-init
loop-i-init c = search (rules, everywhere_none)

pub loop-i-preserved : goal.loop-i-preserved
loop-i-preserved c = search (rules, everywhere_by, blank_is)

pub returns : goal.returns
returns c = search (rules, everywhere_all)
