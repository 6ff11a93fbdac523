-- `rules::chapters::is_all` meets its contract. The loop's invariant: the paragraphs before k are of the kind.
use Rattle.rules.proofs.Covers.{Covering}
use Rattle.rules.proofs.chapters.is_all.Given as goal

abbrev pub invariant-loop-k : goal.invariant-loop-k
invariant-loop-k l = Covering l.kinds l.x l.kind l.initial.k l.k
