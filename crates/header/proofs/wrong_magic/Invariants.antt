-- `header::wrong_magic` meets its contract. The loop's invariant: the first i bytes are those of the magic number.
use Prim.Native.Nat.{◌≤◌, ◌-◌}
use mathlib.Core.Path.{◌≡◌}
use mathlib.Core.Bool.{false, not}
use lib.ListN.{get_or}
use lib.Dec.{eqb}
use Rattle.basics.specs.Counts.{any}
use Rattle.header.specs.Header.{magic, version_at}
use Rattle.header.proofs.wrong_magic.Given as goal

abbrev pub invariant-loop-i : goal.invariant-loop-i
invariant-loop-i l = (l.i ≤ version_at) × (any l.i (λ j. not (eqb (get_or l.s j 0) (get_or magic j 0))) ≡ false)

abbrev pub decreases-loop-i : goal.decreases-loop-i
decreases-loop-i l = version_at - l.i
