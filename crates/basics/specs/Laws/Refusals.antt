-- Tables of refusals, each row with a number that is not 0: refused with this number and place exactly when that row holds and none
-- before it does, accepted exactly when no row holds; and tables one behind the other.
use Rattle.std.specs.Prelude.{◌≡◌, List, [], ◌∷◌, ◌++◌, ◌⊎◌, ◌↔◌}
use Rattle.std.proofs.Common.{sym, ap, ◌∙◌, inl, inr}
use Rattle.basics.specs.declared.Refusal.{Refusal}
use Rattle.basics.specs.Rows.{Row, Gives, here, later, Silent}
use Rattle.basics.specs.Refusals.{no_refusal, first_refusal}
use Rattle.basics.specs.Laws.Rows.{gives_first, silent_first, first_by, first_append, gives_append}

-- each row refuses
abbrev pub Refusing : List (Row Refusal) → Type 0
Refusing [] = Unit {0}
Refusing (r ∷ rs) = (r.1.number ≡ 0 → ⊥) × Refusing rs

pub refusing_append : (rs qs : List (Row Refusal)) → Refusing rs → Refusing qs → Refusing (rs ++ qs)
refusing_append [] qs r q = q
refusing_append (x ∷ rs) qs r q = (r.0, refusing_append rs qs r.1 q)

pub gives_refused : {rs : List (Row Refusal)} {a : Refusal} → Refusing rs → Gives rs a → a.number ≡ 0 → ⊥
gives_refused r (here e) z = r.0 z
gives_refused r (later e g) z = gives_refused r.1 g z

module _ (rs : List (Row Refusal)) (refusing : Refusing rs) where
  given : (a : Refusal) → (a.number ≡ 0 → ⊥) → first_refusal rs ≡ a → (Gives rs (first_refusal rs)) ⊎ (Silent rs) → Gives rs a
  given a h e (inl g) = rw (← e) g
  given a h e (inr s) = absurd (h (ap (λ (r : Refusal). r.number) (sym e ∙ silent_first no_refusal s)))

  pub refused_exactly : (a : Refusal) → (a.number ≡ 0 → ⊥) → (first_refusal rs ≡ a) ↔ Gives rs a
  refused_exactly a h = ((λ e. given a h e (first_by rs no_refusal)), (λ g. gives_first no_refusal g))

  quiet : (first_refusal rs).number ≡ 0 → (Gives rs (first_refusal rs)) ⊎ (Silent rs) → Silent rs
  quiet e (inl g) = absurd (gives_refused refusing g e)
  quiet e (inr s) = s

  pub accepted_exactly : ((first_refusal rs).number ≡ 0) ↔ Silent rs
  accepted_exactly = ((λ e. quiet e (first_by rs no_refusal)), (λ s. ap (λ (r : Refusal). r.number) (silent_first no_refusal s)))

-- a table that refuses is answered whatever stands behind it, and one that is silent leaves the answer to what does
pub refused_front : (rs qs : List (Row Refusal)) → ((first_refusal rs).number ≡ 0 → ⊥) → first_refusal (rs ++ qs) ≡ first_refusal rs
refused_front rs qs n = go (first_by rs no_refusal)
  where
    go : (Gives rs (first_refusal rs)) ⊎ (Silent rs) → first_refusal (rs ++ qs) ≡ first_refusal rs
    go (inl g) = gives_first no_refusal (gives_append qs g)
    go (inr s) = absurd (n (ap (λ (r : Refusal). r.number) (silent_first no_refusal s)))

pub silent_behind : (rs qs : List (Row Refusal)) → Silent rs → first_refusal (rs ++ qs) ≡ first_refusal qs
silent_behind rs qs s = first_append rs qs no_refusal ∙ silent_first (first_refusal qs) s
