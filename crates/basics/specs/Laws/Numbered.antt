-- A table of refusals: every row's answer has a number, which is not 0, and the last word has number 0. So an answer with a number is
-- given exactly when its row holds and none before it does, and one without exactly when no row holds.
use Rattle.std.specs.Prelude.{ℕ, List, [], ◌∷◌, ◌≡◌, ◌⊎◌, ◌↔◌}
use Rattle.std.proofs.Common.{ap, sym, ◌∙◌, inl, inr}
use Rattle.basics.specs.Rows.{Row, Gives, here, later, first_of, Silent}
use Rattle.basics.specs.Laws.Rows.{silent_first, first_by, gives_first}

abbrev pub Refusing : {A : Type 0} → (A → ℕ) → List (Row A) → Type 0
Refusing number [] = Unit {0}
Refusing number (r ∷ rs) = (number r.1 ≡ 0 → ⊥) × Refusing number rs

pub gives_refused : {A : Type 0} (number : A → ℕ) {rs : List (Row A)} {a : A} → Refusing number rs → Gives rs a → number a ≡ 0 → ⊥
gives_refused number r (here e) z = r.0 z
gives_refused number r (later e g) z = gives_refused number r.1 g z

module _ {A : Type 0} (number : A → ℕ) (rs : List (Row A)) (refusing : Refusing number rs) (d : A) (last : number d ≡ 0) where
  given : (a : A) → (number a ≡ 0 → ⊥) → first_of rs d ≡ a → (Gives rs (first_of rs d)) ⊎ (Silent rs) → Gives rs a
  given a h e (inl g) = rw (← e) g
  given a h e (inr s) = absurd (h (ap number (sym e ∙ silent_first d s) ∙ last))

  pub refused_exactly : (a : A) → (number a ≡ 0 → ⊥) → (first_of rs d ≡ a) ↔ Gives rs a
  refused_exactly a h = ((λ e. given a h e (first_by rs d)), (λ g. gives_first d g))

  quiet : number (first_of rs d) ≡ 0 → (Gives rs (first_of rs d)) ⊎ (Silent rs) → Silent rs
  quiet e (inl g) = absurd (gives_refused number refusing g e)
  quiet e (inr s) = s

  pub accepted_exactly : (number (first_of rs d) ≡ 0) ↔ Silent rs
  accepted_exactly = ((λ e. quiet e (first_by rs d)), (λ s. ap number (silent_first d s) ∙ last))
