-- `tables::has_flip` meets its contract. The loop's invariant: the first y entries of chapter 1 have no PFE.
use Prim.Native.Nat.{◌≤◌, ◌+◌, ◌-◌}
use mathlib.Core.Path.{◌≡◌}
use mathlib.Core.Bool.{false}
use Rattle.basics.specs.Counts.{any}
use Rattle.places.specs.Limits.{chapter_pages}
use Rattle.tables.specs.Tables.{has_pFE}
use Rattle.tables.proofs.has_flip.Given as goal

abbrev pub invariant-loop-y : goal.invariant-loop-y
invariant-loop-y l = (l.y ≤ chapter_pages) × (any l.y (λ i. has_pFE l.flips (chapter_pages + i)) ≡ false)

abbrev pub decreases-loop-y : goal.decreases-loop-y
decreases-loop-y l = chapter_pages - l.y
