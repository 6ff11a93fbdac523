-- `layout::survey::is_used` meets its contract. The loop's invariant: none of the first k paragraphs has a line.
use Prim.Native.Nat.{◌*◌, ◌+◌}
use mathlib.Core.Bool.{not, false}
use mathlib.Core.Path.{◌≡◌}
use lib.Dec.{eqb}
use lib.ListN.{get_or}
use Rattle.places.specs.Limits.{chapter_paragraphs, paragraphs}
use Rattle.basics.specs.Counts.{any}
use Rattle.layout.proofs.survey.is_used.Given as goal

abbrev pub invariant-loop-k : goal.invariant-loop-k
invariant-loop-k l = any l.k (λ i. not (eqb (get_or l.numbers (paragraphs * l.t + (chapter_paragraphs * l.x + i)) 0) 0)) ≡ false
