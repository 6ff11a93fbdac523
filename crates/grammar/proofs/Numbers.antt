-- Numbers read digit by digit: one law for each way out of the code's loops and tests.
use Prim.Native.Nat.{ℕ, ◌+◌, ◌*◌, ◌^◌, ◌<◌, ◌≤◌}
use Rattle.std.specs.Prelude.{Option, Some, None}
use mathlib.Core.Path.{◌≡◌, sym, ◌∙◌}
use mathlib.Core.List.{List, [], ◌∷◌}
use mathlib.Core.Bool.{◌&&◌}
use native.Mathlib.Omega.{arith}
use native.Mathlib.Nat.{pow-suc, pow-le-pow_right}
use native.Mathlib.Numerals.{add-one}
use lib.Dec.{leb, eqb, lit<}
use lib.ListN.{length, get_or, drop}
use lib.Seq.{drop-cons, drop-length}
use mir.Syntax.{w8, w16, w32}
use mir.Val.{Fits}
use borrow.Author.Tests.{le-leb, lt-leb, eq-eqb, ne_eqb}
use Rattle.std.specs.Option.{option_map}
use Rattle.places.specs.declared.Page.{Page}
use Rattle.places.specs.Places.{page}
use Rattle.basics.specs.Laws.Tests.{and_false}
use Rattle.text.specs.Spelling.{digit_of}
use Rattle.grammar.specs.Grammar.{hex_from, hex_of, dollar, one_digit, address}
use Rattle.grammar.specs.Laws.Grammar.{digit_below, dollar_below}

-- i digits make a number below 16 to that power, and there are five at most
module _ (n d i : ℕ) (h : n < 16 ^ i) where
  pub hex_grows : d ≤ 16 → (d ≡ 16 → ⊥) → n * 16 + d < 16 ^ (i + 1)
  hex_grows k o = rw (add-one i, pow-suc) (omega arith)

  small : (l : ℕ) → i < l → l ≤ 5 → n < 65536
  small l k m = let p : 16 ^ i ≤ 16 ^ 4 = pow-le-pow_right (lit< tt) {i = i} {j = 4} (omega arith) in omega arith

  pub shift_fits : (l : ℕ) → i < l → l ≤ 5 → Fits w32 (n * 16)
  shift_fits l k m = record { fits = omega (arith, small l k m) }

  pub sum_fits : (l : ℕ) → i < l → l ≤ 5 → d ≤ 16 → Fits w32 (n * 16 + d)
  sum_fits l k m o = record { fits = omega (arith, small l k m) }

module _ (w : List ℕ) (i n : ℕ) (x : Option ℕ) (so : x ≡ hex_from n (drop i w)) where
  pub hex_other : (d : ℕ) → i < length w → d ≡ digit_of (get_or w i 0) → d ≡ 16 → None ≡ x
  unfolding hex_from
  hex_other d l e h = sym (so ∙ rw (drop-cons w i 0 l) (rw (eq-eqb _ _ (sym e ∙ h))))

  pub hex_digit : (d : ℕ) → i < length w → d ≡ digit_of (get_or w i 0) → (d ≡ 16 → ⊥) → x ≡ hex_from (n * 16 + d) (drop (i + 1) w)
  unfolding hex_from
  hex_digit d l e h = so ∙ rw (add-one, drop-cons w i 0 l) (rw (e, ne_eqb (digit_of (get_or w i 0)) 16 (λ k. h (e ∙ k))))

  pub hex_end : i ≤ length w → length w ≤ i → Some n ≡ x
  unfolding hex_from
  hex_end h l = let e : i ≡ length w = omega arith in sym (so ∙ rw (e, drop-length))

-- `$` and its digits
module _ (most : ℕ) where
  pub dollar_none : (w : List ℕ) (r : Option ℕ) → length w ≡ 0 → r ≡ None → r ≡ dollar most w
  unfolding dollar
  dollar_none [] r l e = e
  dollar_none (b ∷ w) r l e = absurd (omega arith)

  module _ (w d : List ℕ) (b : ℕ) (so : w ≡ b ∷ d) where
    pub dollar_digits : (x : Option ℕ) → x ≡ hex_of d → b ≡ 36 → (length d ≡ 0 → ⊥) → length d ≤ most → x ≡ dollar most w
    unfolding dollar
    dollar_digits x e h l m = e ∙ rw so (simp (le-leb 1 (length d) (omega arith), le-leb (length d) most m, h))

    pub dollar_sign : (b ≡ 36 → ⊥) → None ≡ dollar most w
    unfolding dollar
    dollar_sign h = rw so (simp (and_false (leb 1 (length d) && leb (length d) most) (eqb b 36) (ne_eqb b 36 h)))

    pub dollar_short : length d ≡ 0 → None ≡ dollar most w
    unfolding dollar
    dollar_short h = rw so (simp (lt-leb 1 (length d) (omega arith)))

    pub dollar_long : most < length d → None ≡ dollar most w
    unfolding dollar
    dollar_long h = rw so (simp (and_false (leb 1 (length d)) (leb (length d) most) (lt-leb (length d) most h)))

-- a page number's word is one digit
module _ (v w : List ℕ) (so : w ≡ v) where
  pub page_long : (length w ≡ 1 → ⊥) → None ≡ option_map page (one_digit v)
  unfolding one_digit
  page_long h = rw (← so, ne_eqb (length w) 1 h)

  module _ (one : length w ≡ 1) (x : Option ℕ) (e : x ≡ hex_of w) where
    digit_is : x ≡ one_digit v
    unfolding one_digit
    digit_is = rw (← so, one) e

    pub page_other : x ≡ None → (r : Option Page) → r ≡ None → r ≡ option_map page (one_digit v)
    page_other f r g = g ∙ rw (← digit_is, f)

    pub page_digit : (n : ℕ) → x ≡ Some n → Some (page n) ≡ option_map page (one_digit v)
    page_digit n f = rw (← digit_is, f)

    pub page_fits : (n : ℕ) → x ≡ Some n → Fits w8 n
    page_fits n f = record { fits = let l : n < 16 = digit_below v n (sym digit_is ∙ f) in omega arith }

pub address_fits : (w : List ℕ) (x : Option ℕ) → x ≡ address w → (n : ℕ) → x ≡ Some n → Fits w16 n
address_fits w x e n f = record { fits = dollar_below 4 w n (sym e ∙ f) }
