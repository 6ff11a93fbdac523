-- What `outcome` answers: the value exactly where nothing is refused, else the refusal; and the same of `outcome_at`.
use Rattle.std.specs.Prelude.{ℕ, Bool, true, false, cond, ◌≡◌, refl, Result, Ok, Err, is_ok}
use Rattle.std.proofs.Common.{sym, ap, ◌∙◌, ne_eqb, eqb-true}
use Rattle.basics.specs.declared.Refusal.{Refusal}
use Rattle.basics.specs.declared.Declined.{Declined}
use Rattle.basics.specs.Refusals.{passes, outcome, outcome_at, declined}
use Rattle.basics.specs.Laws.Tests.{cases, true_is_not_false}

-- the value and the error of an answer, with something else where it is the other
abbrev pub value_or : {A E : Type 0} → A → Result A E → A
value_or d (Ok a) = a
value_or d (Err e) = d

abbrev pub error_or : {A E : Type 0} → E → Result A E → E
error_or d (Ok a) = d
error_or d (Err e) = e

module _ {A : Type 0} (r : Refusal) (a : A) where
  -- from a refusal to the answer
  pub outcome_ok : r.number ≡ 0 → outcome r a ≡ Ok a
  outcome_ok z = rw z refl

  pub outcome_err : (r.number ≡ 0 → ⊥) → outcome r a ≡ Err r
  outcome_err n = rw (ne_eqb _ _ n) refl

  kept_value : (t : Bool) → value_or a (cond {A = Result A Refusal} t (Ok a) (Err r)) ≡ a
  kept_value true = refl
  kept_value false = refl

  kept_error : (t : Bool) → error_or r (cond {A = Result A Refusal} t (Ok a) (Err r)) ≡ r
  kept_error true = refl
  kept_error false = refl

  -- and back
  pub ok_none : (b : A) → outcome r a ≡ Ok b → r.number ≡ 0
  ok_none b e = cases (passes r) (λ p. eqb-true _ _ p) (λ p. true_is_not_false (ap is_ok e) (rw p refl))

  pub ok_value : (b : A) → outcome r a ≡ Ok b → a ≡ b
  ok_value b e = sym (kept_value (passes r)) ∙ ap (value_or a) e

  pub err_is : (q : Refusal) → outcome r a ≡ Err q → r ≡ q
  err_is q e = sym (kept_error (passes r)) ∙ ap (error_or r) e

  pub err_some : (q : Refusal) → outcome r a ≡ Err q → r.number ≡ 0 → ⊥
  err_some q e z = true_is_not_false (ap is_ok (outcome_ok z)) (ap is_ok e)

module _ {A : Type 0} (r : Refusal) (long : ℕ) (a : A) where
  pub outcome_at_ok : r.number ≡ 0 → outcome_at r long a ≡ Ok a
  outcome_at_ok z = rw z refl

  pub outcome_at_err : (r.number ≡ 0 → ⊥) → outcome_at r long a ≡ Err (declined r long)
  outcome_at_err n = rw (ne_eqb _ _ n) refl

  kept_value_at : (t : Bool) → value_or a (cond {A = Result A Declined} t (Ok a) (Err (declined r long))) ≡ a
  kept_value_at true = refl
  kept_value_at false = refl

  kept_error_at : (t : Bool) → error_or (declined r long) (cond {A = Result A Declined} t (Ok a) (Err (declined r long))) ≡ declined r long
  kept_error_at true = refl
  kept_error_at false = refl

  pub ok_at_none : (b : A) → outcome_at r long a ≡ Ok b → r.number ≡ 0
  ok_at_none b e = cases (passes r) (λ p. eqb-true _ _ p) (λ p. true_is_not_false (ap is_ok e) (rw p refl))

  pub ok_at_value : (b : A) → outcome_at r long a ≡ Ok b → a ≡ b
  ok_at_value b e = sym (kept_value_at (passes r)) ∙ ap (value_or a) e

  pub err_at_is : (d : Declined) → outcome_at r long a ≡ Err d → declined r long ≡ d
  err_at_is d e = sym (kept_error_at (passes r)) ∙ ap (error_or (declined r long)) e

  pub err_at_some : (d : Declined) → outcome_at r long a ≡ Err d → r.number ≡ 0 → ⊥
  err_at_some d e z = true_is_not_false (ap is_ok (outcome_at_ok z)) (ap is_ok e)
