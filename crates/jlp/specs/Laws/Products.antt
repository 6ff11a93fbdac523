-- The four products are the integers' products (000, JLP Multiply and Divide Accelerators).
use Rattle.std.specs.Prelude.{ℕ, ◌+◌, ◌*◌, ◌<◌, ◌≤◌, Bool, true, ◌||◌, ◌⊎◌, ◌≡◌, ℤ, ◌*ℤ◌}
use Rattle.std.proofs.Math.Logic.{inl}
use Rattle.std.proofs.Common.{inr, ap₂, ◌∙◌, mul-le-mul, arith}
use Rattle.std.proofs.Math.Path.{refl, sym, ap}
use Rattle.basics.specs.Laws.Tests.{or_false_left, or_false_right, or_cases}
use Rattle.jlp.specs.declared.arith.Number.{Number}
use Rattle.jlp.specs.Arith.{word_values, long_values, number_of, unlike, product_of, multiplied}
use Rattle.jlp.specs.Values.{integer_of, value_of, long_of}
use Rattle.jlp.specs.Laws.Values.{times, value_is, Signs, signs, back}

product_words : (s t : Bool) (a b : ℕ) → (multiplied s t a b).first + word_values * (multiplied s t a b).second ≡ product_of (number_of s a) (number_of t b)
unfolding multiplied
product_words s t a b = omega arith

module _ (s t : Bool) (a b : ℕ) (ha : a < word_values) (hb : b < word_values) where
  abbrev x : Number
  x = number_of s a

  abbrev y : Number
  y = number_of t b

  i : Signs s a x
  i = signs s a ha

  j : Signs t b y
  j = signs t b hb

  -- where a factor is signed, the product's size is below half of 2^32
  small : (s ≡ true) ⊎ (t ≡ true) → x.size * y.size < 0x8000_0000
  small (inl e) = let k : y.size ≤ 0xFFFF = omega (arith, j.most) in omega (arith, mul-le-mul (i.half e) k)
  small (inr e) = let k : x.size ≤ 0xFFFF = omega (arith, i.most) in omega (arith, mul-le-mul k (j.half e))

  -- the two result words are the product, as a signed number where a factor is signed
  pub product : long_of (s || t) (multiplied s t a b) ≡ value_of s a *ℤ value_of t b
  unfolding product_of
  product =
      ap (integer_of long_values (s || t)) (product_words s t a b)
      ∙ back long_values 0x8000_0000 refl (omega arith) (s || t) (unlike x.negative y.negative) (x.size * y.size)
      (λ e. rw (i.plain (or_false_left s t e), j.plain (or_false_right s t e)))
      (λ e. inl (small (or_cases s t e)))
      ∙ sym (times x.negative y.negative x.size y.size)
      ∙ sym (ap₂ (λ (p q : ℤ). p *ℤ q) (value_is s a) (value_is t b))
