-- `save::lowest_past` meets its contract. The loop's invariant: no paragraph below p is what it seeks.
use Rattle.basics.specs.Laws.Lowest.{Seeking}
use Rattle.places.specs.Limits.{locutus_paragraphs}
use Rattle.save.specs.Writing.{past}
use Rattle.save.proofs.lowest_past.Given as goal

abbrev pub invariant-loop-p : goal.invariant-loop-p
invariant-loop-p l = Seeking locutus_paragraphs (past l.marks l.n) l.p
