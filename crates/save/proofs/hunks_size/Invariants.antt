-- `save::hunks_size` meets its contract. The loop's invariant: long is the sum for the marked paragraphs below p.
use Rattle.save.proofs.Loops.{Summing}
use Rattle.save.proofs.hunks_size.Given as goal

abbrev pub invariant-loop-p : goal.invariant-loop-p
invariant-loop-p l = Summing l.ram l.marks l.long l.p
