-- What places that pass a test give, rising.
use Rattle.std.specs.Prelude.{ℕ, zero, suc, List, [], ◌∷◌, ◌++◌, Bool, cond}

-- f i for each place i below n that passes
unfoldable pub listed : {A : Type 0} → ℕ → (ℕ → Bool) → (ℕ → A) → List A
listed zero on f = []
listed (suc n) on f = listed n on f ++ cond (on n) (f n ∷ []) []
