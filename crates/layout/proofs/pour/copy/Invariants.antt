-- `layout::pour::copy` meets its contract. The loop's invariant: the first i words are the BIN's.
use Prim.Native.Nat.{◌+◌}
use Rattle.basics.specs.Laws.Tables.{Filled}
use Rattle.places.specs.Limits.{paragraph_size}
use Rattle.layout.specs.Code.Pour.{word_in}
use Rattle.layout.proofs.pour.copy.Given as goal

abbrev pub invariant-loop-i : goal.invariant-loop-i
invariant-loop-i l = Filled 0 paragraph_size (λ j. word_in l.bin (l.w + j)) l.i l.words
