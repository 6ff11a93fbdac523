-- `hunk::bodies::put_lower` meets its contract. The loop's invariant: the lower bytes of j words are laid.
use Rattle.basics.specs.Laws.Lists.{laid_none}
use borrow.Author.Rules.{rules}
use Rattle.hunk.proofs.Packed.{lower_more}
use Rattle.hunk.proofs.bodies.put_lower.Goals as goal

pub loop-j-init : goal.loop-j-init
loop-j-init c = search (rules, laid_none)

pub loop-j-preserved : goal.loop-j-preserved
loop-j-preserved c = search (rules, lower_more)
