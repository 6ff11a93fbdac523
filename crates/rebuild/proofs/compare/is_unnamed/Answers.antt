-- `rebuild::compare::is_unnamed` meets its contract. The loop's invariant: it is known whether none of the first i words is named.
use borrow.Author.Rules.{rules}
use Rattle.rebuild.proofs.Loops.{unnamed_none, unnamed_more, unnamed_all}
use Rattle.rebuild.proofs.compare.is_unnamed.Goals as goal

pub loop-i-init : goal.loop-i-init
loop-i-init c = search (rules, unnamed_none)

pub loop-i-preserved : goal.loop-i-preserved
loop-i-preserved c = search (rules, unnamed_more)

pub returns : goal.returns
returns c = search (rules, unnamed_all)
