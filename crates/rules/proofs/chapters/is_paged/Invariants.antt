-- `rules::chapters::is_paged` meets its contract. The loop's invariant: none of the first y pages has an owner.
use Prim.Native.Nat.{◌*◌, ◌+◌}
use mathlib.Core.Bool.{not, false}
use mathlib.Core.Path.{◌≡◌}
use lib.Dec.{eqb}
use lib.ListN.{get_or}
use Rattle.basics.specs.Counts.{any}
use Rattle.places.specs.Limits.{chapter_pages}
use Rattle.rules.proofs.chapters.is_paged.Given as goal

abbrev pub invariant-loop-y : goal.invariant-loop-y
invariant-loop-y l = any l.y (λ i. not (eqb (get_or l.pages (chapter_pages * l.x + i) 0) 0)) ≡ false
