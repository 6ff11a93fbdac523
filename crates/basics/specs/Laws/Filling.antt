-- What `array::from_fn` makes: the table of a function, where each call of the closure gives the function's value and leaves the closure as it was.
use Rattle.std.specs.Prelude.{ℕ, zero, suc, ◌+◌, ◌<◌, ◌≤◌, List, ◌≡◌, refl, get_or, eqb}
use Rattle.std.proofs.Common.{◌∙◌, arith, eqb-true, subst}
use Rattle.std.proofs.lemmas.Bool.{eqb-false}
use denote.Param.Members.{Mut, Called}
use Rattle.std.specs.Array.{IsFromFnResult, IsFromFnResultFrom}
use Rattle.basics.specs.Tables.{table}
use Rattle.basics.specs.Laws.Tests.{cases}
use Rattle.basics.specs.Laws.Tables.{table_of}

module _ {F A : Type 0} (g : Mut F (ℕ × Unit {0}) A) (n : ℕ) (h : ℕ → A) (f : F)
    (same : (i : ℕ) (y : A) (q : F) → i < n → Called g f (i, tt) y q → (y ≡ h i) × (q ≡ f)) where
  entries : (k i : ℕ) (q : F) (ys : List A) → q ≡ f → i + k ≡ n → IsFromFnResultFrom g q ys i k → (j : ℕ) (d : A) → i ≤ j → j < n → get_or ys j d ≡ h j
  entries zero i q ys e w t j d lo hi = absurd (omega arith)
  entries (suc k) i q ys e w t j d lo hi =
      let called : Called g f (i, tt) t.1 t.0 = subst (λ (p : F). Called g p (i, tt) t.1 t.0) e t.3 in
      let one = same i t.1 t.0 (omega arith) called in
      cases (eqb i j)
      (λ p. subst (λ (m : ℕ). get_or ys m d ≡ h m) (eqb-true i j p) (t.2.1 d ∙ one.0))
      (λ p. entries k (i + 1) t.0 ys one.1 (omega arith) t.4 j d (let d : i ≡ j → ⊥ = eqb-false i j p in omega arith) hi)

  pub table_from_fn : (A) → (ys : List A) → IsFromFnResult g f ys n → ys ≡ table n h
  table_from_fn d ys r = table_of d n h ys r.long (λ i l. entries n 0 f ys refl (omega arith) r.each i d (omega arith) l)
