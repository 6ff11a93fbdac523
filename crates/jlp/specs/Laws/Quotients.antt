-- Quotient and remainder as the integers have them (02, W-206; 000, JLP Multiply and Divide Accelerators).
use Rattle.std.specs.Prelude.{ℕ, zero, suc, ◌+◌, ◌-◌, ◌*◌, ◌/◌, ◌%◌, ◌<◌, ◌≤◌, Bool, true, false, cond, ◌⊎◌, ◌≡◌, leb, ltb, ℤ, nat_abs, ◌+ℤ◌, ◌*ℤ◌}
use Rattle.std.proofs.Math.Logic.{inl}
use Rattle.std.proofs.Common.{inr, ⊎_elim, sym, ap, ap₂, ◌∙◌, div-add-mod', mod-lt, div-lt_iff_lt-mul, arith, le-leb, ne_eqb, ltb-true, ltb-false}
use Rattle.std.proofs.Math.Path.{refl}
use Rattle.std.proofs.lemmas.Bool.{lt-leb}
use Rattle.basics.specs.Laws.Tests.{cases, true_is_not_false}
use Rattle.jlp.specs.declared.arith.Number.{Number}
use Rattle.jlp.specs.declared.Results.{Results}
use Rattle.jlp.specs.Arith.{word_values, number, number_of, word_of, unlike, results, quotient_of, divided}
use Rattle.jlp.specs.Values.{value_of}
use Rattle.jlp.specs.Laws.Values.{signed, size_of, times, plus, value_is, Signs, signs, InRange, back}

unlike_back : (a b : Bool) → unlike (unlike a b) b ≡ a
unlike_back true true = refl
unlike_back true false = refl
unlike_back false true = refl
unlike_back false false = refl

-- division by sizes is division of the integers
divides : (a b : Bool) (m n : ℕ) → signed (unlike a b) (m / n) *ℤ signed b n +ℤ signed a (m % n) ≡ signed a m
divides a b m n =
    ap (λ (z : ℤ). z +ℤ signed a (m % n)) (times (unlike a b) b (m / n) n ∙ ap (λ (c : Bool). signed c (m / n * n)) (unlike_back a b))
    ∙ plus a (m / n * n) (m % n)
    ∙ ap (signed a) (div-add-mod' m n)

unlike_true : (a b : Bool) → a ≡ true → (b ≡ true → ⊥) → unlike a b ≡ true
unlike_true true false e h = refl
unlike_true true true e h = absurd (h refl)
unlike_true false b e h = true_is_not_false e refl

one_of : (k : ℕ) → k ≡ 1 → 0x8000 / k ≡ 0x8000
one_of k e = rw e

-- a quotient is in range, but for 32,768 by 1 with no sign
quotient_range : (d : Bool) (m n : ℕ) → m ≤ 0x8000 → 0 < n → (m ≡ 0x8000 → n ≡ 1 → d ≡ true) → InRange 0x8000 d (m / n)
quotient_range d m n h k f =
    cases (ltb m (0x8000 * n)) (λ e. inl ((div-lt_iff_lt-mul {y = 0x8000} k).1 (ltb-true _ _ e)))
    (λ e.
    let l : 0x8000 * n ≤ m = ltb-false _ _ e in
    let a : m ≡ 0x8000 = omega arith in
    let b : n ≡ 1 = omega arith in
    inr (f a b, rw a (one_of n b)))

-- the sign of a word's number
sign_of : (w : ℕ) → (number_of true w).negative ≡ leb 0x8000 w
sign_of w = by (leb 0x8000 w)
  where
    by : (b : Bool) → (cond b (number true (word_values - w)) (number false w)).negative ≡ b
    by true = refl
    by false = refl

-- a word of a sign and a size below 32,768 is 0, or of that sign
sign_back : (n : Bool) (k : ℕ) → k < 0x8000 → (word_of word_values n k ≡ 0) ⊎ (leb 0x8000 (word_of word_values n k) ≡ n)
sign_back false k h = inr (lt-leb _ _ h)
sign_back true zero h = inl refl
sign_back true (suc k) h =
    let d : (word_values - suc k) % word_values ≡ word_values - suc k = omega arith in
    inr (rw (d, le-leb 0x8000 (word_values - suc k) (omega arith)))

-- a divide of words, signed or not, by one that is not 0
module _ (s : Bool) (a b : ℕ) (ha : a < word_values) (hb : b < word_values) (nz : b ≡ 0 → ⊥) (old : Results) where
  abbrev x : Number
  x = number_of s a

  abbrev y : Number
  y = number_of s b

  i : Signs s a x
  i = signs s a ha

  j : Signs s b y
  j = signs s b hb

  left : x.size % y.size < y.size
  left = mod-lt x.size (j.some nz)

  -- the integer of each result word, by sign and size
  quotient_value : (s ≡ true → a ≡ 0x8000 → b ≡ 0xFFFF → ⊥)
      → value_of s (divided s a b old).first ≡ signed (unlike x.negative y.negative) (x.size / y.size)
  unfolding divided quotient_of
  quotient_value other =
      rw (ne_eqb _ _ nz)
      (back word_values 0x8000 refl (omega arith) s (unlike x.negative y.negative) (x.size / y.size) (λ e. rw (i.plain e, j.plain e))
      (λ e.
      quotient_range _ _ _ (i.half e) (j.some nz) (λ p q. unlike_true _ _ (i.least e p).1 (λ t. other e (i.least e p).0 (j.minus q t)))))

  remainder_value : value_of s (divided s a b old).second ≡ signed x.negative (x.size % y.size)
  unfolding divided quotient_of
  remainder_value =
      rw (ne_eqb _ _ nz)
      (back word_values 0x8000 refl (omega arith) s x.negative (x.size % y.size) (λ e. i.plain e) (λ e. inl (omega (arith, left, j.half e))))

  -- quotient times divisor and remainder make the dividend, but for -32,768 by -1
  pub quotient_divides : (s ≡ true → a ≡ 0x8000 → b ≡ 0xFFFF → ⊥)
      → value_of s (divided s a b old).first *ℤ value_of s b +ℤ value_of s (divided s a b old).second ≡ value_of s a
  quotient_divides other =
      ap₂ (λ (p r : ℤ). p +ℤ r) (ap₂ (λ (q d : ℤ). q *ℤ d) (quotient_value other) (value_is s b)) remainder_value
      ∙ divides x.negative y.negative x.size y.size
      ∙ sym (value_is s a)

  -- the remainder is smaller than the divisor
  pub remainder_small : nat_abs (value_of s (divided s a b old).second) < nat_abs (value_of s b)
  remainder_small =
      omega (
        arith,
        left,
        ap nat_abs remainder_value ∙ size_of x.negative (x.size % y.size),
        ap nat_abs (value_is s b) ∙ size_of y.negative y.size,
      )

-- and a signed one is 0 or has the dividend's sign: both are $8000 and on, or both are below
pub remainder_sign : (a b : ℕ) → a < word_values → b < word_values → (b ≡ 0 → ⊥) → (old : Results)
    → ((divided true a b old).second ≡ 0) ⊎ (leb 0x8000 (divided true a b old).second ≡ leb 0x8000 a)
unfolding divided quotient_of
remainder_sign a b ha hb nz old =
    rw (ne_eqb _ _ nz)
    (⊎_elim (λ z. inl z) (λ e. inr (e ∙ sign_of a))
    (sign_back (number_of true a).negative ((number_of true a).size % (number_of true b).size)
    (omega (arith, left true a b ha hb nz old, (signs true b hb).half refl))))

-- not signed, plainly
module _ (a b : ℕ) (nz : b ≡ 0 → ⊥) (old : Results) where
  pub plain_divides : (divided false a b old).first * b + (divided false a b old).second ≡ a
  unfolding divided quotient_of
  plain_divides = rw (ne_eqb _ _ nz) (div-add-mod' a b)

  pub plain_small : (divided false a b old).second < b
  unfolding divided quotient_of
  plain_small = rw (ne_eqb _ _ nz) (mod-lt a (omega arith))

-- the one quotient out of range, -32,768 by -1; and divisor 0 (02, W-206)
pub out_of_range : (old : Results) → divided true 0x8000 0xFFFF old ≡ results 0x8000 0
unfolding divided quotient_of
out_of_range old = refl

pub by_zero : (s : Bool) (a : ℕ) (old : Results) → divided s a 0 old ≡ old
unfolding divided
by_zero s a old = refl
