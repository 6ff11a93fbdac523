-- One law for each return: what the code has tested and called, as the definition that it answers.
use Prim.Native.Nat.{ℕ, zero, suc, ◌+◌, ◌-◌, ◌*◌, ◌/◌, ◌%◌, ◌<◌, ◌≤◌}
use mathlib.Core.Bool.{Bool, true, false, not, ◌&&◌}
use mathlib.Core.Path.{◌≡◌, refl, sym, ◌∙◌}
use native.Mathlib.Omega.{arith}
use native.Mathlib.Nat.{mul-le-mul_left, le_of_lt}
use lib.Bits.{bit_xor, xor_lt}
use Rattle.std.proofs.Common.{lit<}
use Rattle.sums.specs.Laws.Crc.{bits_lt}
use lib.Dec.{eqb, ltb}
use borrow.Author.Tests.{eq-eqb, ne_eqb}
use Rattle.basics.specs.Laws.Tests.{cases, not-true, not-false, true_is_not_false, and_false, or_right, cond_true}
use Rattle.places.specs.declared.Console.{Console}
use Rattle.sums.specs.Crc.{crc_bits}
use Rattle.flash.specs.declared.Saves.{Saves}
use Rattle.flash.specs.Registers.{remembered}
use Rattle.jlp.specs.declared.arith.Number.{Number}
use Rattle.jlp.specs.declared.Jlp.{Jlp}
use Rattle.jlp.specs.declared.Results.{Results}
use Rattle.jlp.specs.Window.{between, in_window, is_operand, operands_start, operands_end}
use Rattle.jlp.specs.Arith.{word_values, long_values, number_of, word_of, unlike, results, product_of, multiplied, quotient_of, divided}
use Rattle.jlp.specs.Crc.{jlp_poly, crc_word}
use Rattle.jlp.specs.Accelerators.{with_on, turns_on, turns_off, takes, function_of, operated, operand_count, crc_after, with_crc_and_saves, written_on, written_jlp}
use Rattle.jlp.specs.Laws.Values.{signs}
use Rattle.jlp.specs.Laws.Window.{between_low, between_high}
use Rattle.jlp.specs.Laws.Accelerators.{on_in_window, off_takes}

-- a product of two sizes has 32 bits
pub product_fits : (a b : ℕ) → a < 0x10000 → b < 0x10000 → a * b < 0x1_0000_0000
product_fits a b h k = omega (arith, mul-le-mul_left a (le_of_lt k))

-- the signs of two factors differ, or are one
unlike_so : (x y : Bool) → (x ≡ y → ⊥) → unlike x y ≡ true
unlike_so true true n = absurd (n refl)
unlike_so true false n = refl
unlike_so false true n = refl
unlike_so false false n = absurd (n refl)

unlike_not : (x y : Bool) → x ≡ y → unlike x y ≡ false
unlike_not true true e = refl
unlike_not true false e = e
unlike_not false true e = sym e
unlike_not false false e = refl

module _ (a b : Number) where
  pub product_negative : (r : ℕ) → (a.negative ≡ b.negative → ⊥) → a.size * b.size < long_values → r < long_values
      → (r + a.size * b.size) % long_values ≡ 0 → r ≡ product_of a b
  unfolding product_of
  product_negative r n h k e = rw (unlike_so a.negative b.negative n) (omega arith)

  pub product_positive : a.negative ≡ b.negative → a.size * b.size ≡ product_of a b
  unfolding product_of
  product_positive e = rw (unlike_not a.negative b.negative e)

pub multiply_is : (s t : Bool) (a b p : ℕ) (x y : Number) → x ≡ number_of s a → y ≡ number_of t b → p ≡ product_of x y
    → results (p % word_values) (p / word_values) ≡ multiplied s t a b
unfolding multiplied
multiply_is s t a b p x y e f g = rw (← e, ← f, ← g)

pub quotient_is : (a b : Number) (d : Bool) (q r : ℕ) → d ≡ unlike a.negative b.negative
    → q ≡ word_of word_values d (a.size / b.size) → r ≡ word_of word_values a.negative (a.size % b.size) → results q r ≡ quotient_of a b
unfolding quotient_of
quotient_is a b d q r e f g = rw (← e, ← f, ← g)

-- a divisor that is not 0 has a size
pub divisor_some : (s : Bool) (w : ℕ) (n : Number) → n ≡ number_of s w → w < 0x10000 → (w ≡ 0 → ⊥) → 0 < n.size
divisor_some s w n e h z = rw e ((signs s w h).some z)

pub divide_none : (s : Bool) (a b : ℕ) (old : Results) → b ≡ 0 → old ≡ divided s a b old
unfolding divided
divide_none s a b old e = rw (eq-eqb _ _ e)

pub divide_some : (s : Bool) (a b : ℕ) (old r : Results) (x y : Number)
    → (b ≡ 0 → ⊥) → x ≡ number_of s a → y ≡ number_of s b → r ≡ quotient_of x y → r ≡ divided s a b old
unfolding divided
divide_some s a b old r x y h e f g = rw (ne_eqb _ _ h, ← e, ← f) g

-- sixteen bits of the sum with the word merged in, which has sixteen bits
module _ (c w p x r : ℕ) (e : p ≡ jlp_poly) (f : x ≡ bit_xor c w) (g : r ≡ crc_bits p 16 x) where
  pub word_fits : c < 0x10000 → w < 0x10000 → r < 0x10000
  word_fits h k = rw (g, e, f) (bits_lt jlp_poly 16 (lit< tt) 16 (bit_xor c w) (xor_lt 16 c w h k))

  pub word_is : r ≡ crc_word c w
  unfolding crc_word
  word_is = rw (← e, ← f) g

-- a function by its number: the four products, by which of their factors are signed, and the two quotients
pub product_row : (n a b : ℕ) (old r : Results) → n < 4 → r ≡ multiplied (ltb n 2) (eqb (n % 2) 0) a b → r ≡ function_of n a b old
unfolding function_of
product_row zero a b old r h e = e
product_row (suc zero) a b old r h e = e
product_row (suc (suc zero)) a b old r h e = e
product_row (suc (suc (suc zero))) a b old r h e = e
product_row (suc (suc (suc (suc n)))) a b old r h e = absurd (omega (arith, h))

pub quotient_row : (n a b : ℕ) (old r : Results) → 4 ≤ n → r ≡ divided (eqb n 4) a b old → r ≡ function_of n a b old
unfolding function_of
quotient_row n a b old r h e =
    cases (eqb n 4)
    (λ t. rw (ne_eqb n 0 (λ z. omega arith), ne_eqb n 1 (λ z. omega arith), ne_eqb n 2 (λ z. omega arith), ne_eqb n 3 (λ z. omega arith), t) (rw t at e))
    (λ t. rw (ne_eqb n 0 (λ z. omega arith), ne_eqb n 1 (λ z. omega arith), ne_eqb n 2 (λ z. omega arith), ne_eqb n 3 (λ z. omega arith), t) (rw t at e))

-- an operand's number
pub operand_from : (a : ℕ) (b : Bool) → b ≡ between operands_start operands_end a → b ≡ true → operands_start ≤ a
operand_from a b e t = between_low _ _ _ (sym e ∙ t)

pub operand_below : (a : ℕ) (b : Bool) → b ≡ between operands_start operands_end a → b ≡ true → a - operands_start < operand_count
operand_below a b e t = omega (arith, between_high _ _ _ (sym e ∙ t))

module _ (j : Jlp) (at : Console) where
  -- a write is not in the window, or comes while on, or while off
  pub takes_outside : (v : ℕ) (w : Bool) → w ≡ in_window at → w ≡ false → false ≡ takes j at v
  unfolding takes
  takes_outside v w e n =
      let out : in_window at ≡ false = sym e ∙ n in
      let off : turns_on j.field at v ≡ false = not_here v out in
      rw (off, out) (sym (and_false j.on false refl))
    where
      not_here : (v : ℕ) → in_window at ≡ false → turns_on j.field at v ≡ false
      not_here v out = cases (turns_on j.field at v) (λ t. true_is_not_false (on_in_window j.field at v t) out) (λ t. t)

  pub takes_on : (v : ℕ) (w : Bool) → w ≡ in_window at → w ≡ true → j.on ≡ true → true ≡ takes j at v
  unfolding takes
  takes_on v w e n o =
      let here : in_window at ≡ true = sym e ∙ n in
      sym (or_right (turns_on j.field at v) (j.on && in_window at) (rw (o, here)))

  pub takes_off : (v : ℕ) (t : Bool) → j.on ≡ false → t ≡ turns_on j.field at v → t ≡ takes j at v
  unfolding takes
  takes_off v t o e = e ∙ sym (off_takes j at v o)

  -- while on: the word that turns off, an operand, and any other write
  pub on_off : (v : ℕ) (t : Bool) (r : Jlp) → t ≡ turns_off at v → t ≡ true → r ≡ with_on j false → r ≡ written_on j at v
  unfolding written_on
  on_off v t r e h f = rw (← e, h) f

  pub on_operand : (v : ℕ) (t b : Bool) (r : Jlp) → t ≡ turns_off at v → t ≡ false → b ≡ is_operand at → b ≡ true
      → r ≡ operated j (at.0 - operands_start) v → r ≡ written_on j at v
  unfolding written_on
  on_operand v t b r e h g k f = rw (← e, h, ← g, k) f

  pub on_other : (v c : ℕ) (s : Saves) (t b : Bool) (r : Jlp) → t ≡ turns_off at v → t ≡ false → b ≡ is_operand at → b ≡ false
      → c ≡ crc_after j.crc at v → s ≡ remembered j.saves at v → r ≡ with_crc_and_saves j c s → r ≡ written_on j at v
  unfolding written_on
  on_other v c s t b r e h g k q l f = rw (← e, h, ← g, k, ← q, ← l) f

  -- the word that turns on, and any other write while off and while on
  pub write_turns : (v : ℕ) (t : Bool) (r : Jlp) → t ≡ turns_on j.field at v → t ≡ true → r ≡ with_on j true → r ≡ written_jlp j at v
  unfolding written_jlp
  write_turns v t r e h f = rw (← e, h) f

  pub write_off : (v : ℕ) (t : Bool) → t ≡ turns_on j.field at v → t ≡ false → not j.on ≡ true → j ≡ written_jlp j at v
  unfolding written_jlp
  write_off v t e h o = rw (← e, h, not-true j.on o)

  pub write_on : (v : ℕ) (t : Bool) (r : Jlp) → t ≡ turns_on j.field at v → t ≡ false → not j.on ≡ false → r ≡ written_on j at v
      → r ≡ written_jlp j at v
  unfolding written_jlp
  write_on v t r e h o f = rw (← e, h) (f ∙ sym (cond_true j.on (written_on j at v) j (not-false j.on o)))
