-- `rules::chapters::kinds_of` meets its contract. The loop's invariant: the kinds are those of the lines before line k.
use Rattle.rules.proofs.Covers.{Kinding}
use Rattle.rules.proofs.chapters.kinds_of.Given as goal

abbrev pub invariant-loop-l : goal.invariant-loop-l
invariant-loop-l l = Kinding l.lines l.kinds l.l-index
