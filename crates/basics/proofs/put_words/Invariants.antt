-- `basics::put_words` meets its contract. The loop's invariant: the first i words are put, two bytes each.
use Prim.Native.Nat.{◌-◌}
use lib.ListN.{length}
use Rattle.basics.specs.Laws.Puts.{Wording}
use Rattle.basics.proofs.put_words.Given as goal

abbrev pub invariant-loop-i : goal.invariant-loop-i
invariant-loop-i l = Wording l.words l.initial.out l.out l.i

abbrev pub decreases-loop-i : goal.decreases-loop-i
decreases-loop-i l = length l.words - l.i
