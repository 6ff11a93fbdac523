-- `same` is equality of texts.
use Rattle.std.specs.Prelude.{ℕ, List, [], ◌∷◌, true, false, ◌≡◌, refl, eqb}
use Rattle.std.proofs.Common.{eq-eqb, eqb-true}
use Rattle.basics.specs.Laws.Tests.{cases, true_is_not_false}
use Rattle.text.specs.Spelling.{same}

pub same_refl : (s : List ℕ) → same s s ≡ true
unfolding same
same_refl [] = refl
same_refl (b ∷ s) = rw (eq-eqb b b refl) (same_refl s)

pub same_equal : (s t : List ℕ) → same s t ≡ true → s ≡ t
unfolding same
same_equal [] [] e = refl
same_equal [] (c ∷ t) e = true_is_not_false e refl
same_equal (b ∷ s) [] e = true_is_not_false e refl
same_equal (b ∷ s) (c ∷ t) e =
    cases (eqb b c)
    (λ p. let h : same s t ≡ true = rw p at e in rw (eqb-true b c p, same_equal s t h))
    (λ p. let h : false ≡ true = rw p at e in true_is_not_false h refl)
