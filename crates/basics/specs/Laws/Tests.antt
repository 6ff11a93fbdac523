-- Tests: what a branch of the code has decided, put into a definition that asks the same; and ways to take a test apart.
use Rattle.std.specs.Prelude.{ℕ, ◌<◌, ◌≤◌, Bool, true, false, ◌&&◌, ◌||◌, cond, not, ◌≡◌, refl, ◌⊎◌, eqb, ltb}
use Rattle.std.proofs.Common.{sym, inl, inr, arith, eq-eqb, ne_eqb, lt-ltb, le-ltb, le-leb, eqb-true, ltb-true, ltb-false}
use Rattle.std.proofs.lemmas.Bool.{lt-leb, eqb-false}

-- `search tests` rewrites each test of a definition that a branch of the code has decided
pub ruleset tests = (eq-eqb, ne_eqb, lt-ltb, le-ltb, le-leb, lt-leb)

-- by the value of a test
pub cases : {A : Type 0} (b : Bool) → (b ≡ true → A) → (b ≡ false → A) → A
cases {A = A} b holds fails = go b refl
  where
    go : (c : Bool) → b ≡ c → A
    go true e = holds e
    go false e = fails e

pub true_is_not_false : {A : Type 0} {b : Bool} → b ≡ true → b ≡ false → A
true_is_not_false p q = let z : ◌≡◌ {A = ℕ} 0 1 = cc in absurd (omega arith)

-- tests joined
pub and_left : (a b : Bool) → a && b ≡ true → a ≡ true
and_left true b e = refl
and_left false b e = e

pub and_right : (a b : Bool) → a && b ≡ true → b ≡ true
and_right true b e = e
and_right false b e = true_is_not_false e refl

pub and_true : (a b : Bool) → a ≡ true → b ≡ true → a && b ≡ true
and_true a b e f = rw (e, f)

pub and_false : (a b : Bool) → b ≡ false → a && b ≡ false
and_false true b e = e
and_false false b e = refl

pub or_left : (a b : Bool) → a ≡ true → a || b ≡ true
or_left a b e = rw e

pub or_right : (a b : Bool) → b ≡ true → a || b ≡ true
or_right true b e = refl
or_right false b e = e

pub or_cases : (a b : Bool) → a || b ≡ true → (a ≡ true) ⊎ (b ≡ true)
or_cases true b e = inl refl
or_cases false b e = inr e

pub or_false_left : (a b : Bool) → a || b ≡ false → a ≡ false
or_false_left true b e = e
or_false_left false b e = refl

pub or_false_right : (a b : Bool) → a || b ≡ false → b ≡ false
or_false_right true b e = true_is_not_false refl e
or_false_right false b e = e

pub or_assoc : (a b c : Bool) → a || (b || c) ≡ a || b || c
or_assoc true b c = refl
or_assoc false b c = refl

pub or_none : (a : Bool) → a || false ≡ a
or_none true = refl
or_none false = refl

-- two tests that follow from each other are one
pub same_test : (a b : Bool) → (a ≡ true → b ≡ true) → (b ≡ true → a ≡ true) → a ≡ b
same_test true b f g = sym (f refl)
same_test false true f g = g refl
same_test false false f g = refl

-- two numbers are equal, or one is below the other
pub compare : (m n : ℕ) → (m ≡ n) ⊎ ((m < n) ⊎ (n < m))
compare m n =
    cases (eqb m n) (λ e. inl (eqb-true m n e))
    (λ e.
    let d : m ≡ n → ⊥ = eqb-false m n e in
    inr (cases (ltb m n) (λ l. inl (ltb-true m n l)) (λ l. let k : n ≤ m = ltb-false m n l in inr (omega arith))))

pub cond_true : {A : Type 0} (b : Bool) (x y : A) → b ≡ true → cond b x y ≡ x
cond_true b x y e = rw e

pub not-false : (b : Bool) → not b ≡ false → b ≡ true
not-false true e = refl
not-false false e = sym e

pub not-true : (b : Bool) → not b ≡ true → b ≡ false
not-true true e = sym e
not-true false e = refl

pub not_cond : (b : Bool) (x y : ℕ) → cond b x y ≡ cond (not b) y x
not_cond true x y = refl
not_cond false x y = refl
