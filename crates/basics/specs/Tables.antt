-- Tables: a list made of a function of the place, and one that is filled from its first place on.
use Rattle.std.specs.Prelude.{ℕ, zero, suc, List, [], ◌∷◌}

-- n elements from f i on
unfoldable pub made : {A : Type 0} → ℕ → ℕ → (ℕ → A) → List A
made i zero f = []
made i (suc n) f = f i ∷ made (suc i) n f

-- f 0 to f (n - 1)
abbrev pub table : {A : Type 0} → ℕ → (ℕ → A) → List A
table n f = made 0 n f
