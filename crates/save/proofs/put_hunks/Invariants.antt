-- `save::put_hunks` meets its contract. The loop's invariant: the blocks of the marked paragraphs below p are written.
use Rattle.save.proofs.Loops.{Marking}
use Rattle.save.proofs.put_hunks.Given as goal

abbrev pub invariant-loop-p : goal.invariant-loop-p
invariant-loop-p l = Marking l.ram l.marks l.initial.out l.out l.at l.p
