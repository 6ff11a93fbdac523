-- `rules::chapters::first_broken` meets its contract. The loop's invariant: no chapter below x breaks the rule.
use Rattle.rules.specs.Code.Chapters.{breaks_in}
use Rattle.rules.proofs.Covers.{Unbroken}
use Rattle.rules.proofs.chapters.first_broken.Given as goal

abbrev pub invariant-loop-x : goal.invariant-loop-x
invariant-loop-x l = Unbroken (breaks_in l.pages l.kinds) l.x
