-- `hunk::stores::short` meets its contract. The loop's invariant: i of the n decles are laid.
use borrow.Author.Rules.{rules}
use Rattle.basics.specs.Laws.Lists.{laid_none, laid_more}
use Rattle.hunk.proofs.stores.short.Goals as goal

pub loop-i-init : goal.loop-i-init
loop-i-init c = search (rules, laid_none)

pub loop-i-preserved : goal.loop-i-preserved
loop-i-preserved c = search (rules, laid_more)
