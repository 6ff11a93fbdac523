-- `rules::first_clash` meets its contract. The loop's invariant: the owners are those of the lines before line k.
use Rattle.rules.proofs.Clashes.{Clashing}
use Rattle.rules.proofs.first_clash.Given as goal

abbrev pub invariant-loop-l : goal.invariant-loop-l
invariant-loop-l l = Clashing l.lines l.owners l.l-index
