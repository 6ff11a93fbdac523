-- `ledger::bin::put_each` meets its contract. The loop's invariant: the first i words are written.
use lib.ListN.{length}
use Rattle.ledger.proofs.Bins.{Words}
use Rattle.ledger.proofs.bin.put_each.Given as goal

abbrev pub invariant-loop-i : goal.invariant-loop-i
invariant-loop-i l = Words l.words (length l.words) l.initial.out l.out l.i
