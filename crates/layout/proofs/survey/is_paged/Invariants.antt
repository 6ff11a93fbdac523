-- `layout::survey::is_paged` meets its contract. The loop's invariant: none of the first y pages is in use.
use Prim.Native.Nat.{◌*◌, ◌+◌, suc}
use mathlib.Core.Bool.{false}
use mathlib.Core.Path.{◌≡◌}
use lib.ListN.{get_or}
use Rattle.places.specs.Limits.{layers}
use Rattle.basics.specs.Counts.{any}
use Rattle.layout.proofs.survey.is_paged.Given as goal

abbrev pub invariant-loop-y : goal.invariant-loop-y
invariant-loop-y l = any l.y (λ i. get_or l.used (layers * l.x + suc i) false) ≡ false
