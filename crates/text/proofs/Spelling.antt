-- Two texts are the same exactly where the library finds their bytes equal.
use mathlib.Core.Path.{◌≡◌, refl}
use Prim.Native.Nat.{ℕ}
use mathlib.Core.Bool.{Bool, true, false, cond, ◌&&◌}
use mathlib.Core.List.{List, [], ◌∷◌}
use lib.Dec.{eqb}
use lib.Pointwise.{pointwise}
use Rattle.text.specs.Spelling.{same}

and_then : (b r : Bool) → (b && r) ≡ cond b r false
and_then true r = refl
and_then false r = refl

pub same_bytes : (s t : List ℕ) → pointwise eqb s t ≡ same s t
unfolding same
same_bytes [] [] = refl
same_bytes [] (c ∷ t) = refl
same_bytes (b ∷ s) [] = refl
same_bytes (b ∷ s) (c ∷ t) = rw (same_bytes s t) (and_then (eqb b c) (same s t))
