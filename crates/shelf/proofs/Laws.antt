-- One law for each return, its premises as the code's tests and calls give them; and what the loop over a text keeps.
use Prim.Native.Nat.{ℕ, ◌+◌, ◌-◌, ◌*◌, ◌/◌, ◌≤◌, ◌<◌, ◌^◌}
use mathlib.Core.Path.{◌≡◌, refl, sym, ap, ◌∙◌}
use mathlib.Core.List.{List, [], ◌∷◌, ◌++◌}
use native.Mathlib.Omega.{arith}
use native.Mathlib.Numerals.{add-one}
use lib.ListN.{length, get_or, take, drop, length-append, length-drop}
use lib.Seq.{take_all, take-suc}
use borrow.Author.Tests.{eq-eqb, ne_eqb, lt-ltb, le-ltb, ltb-false}
use lib.Dec.{ltb}
use mathlib.Core.Bool.{true}
use borrow.Rule.Slice.PartMut.{put_mid}
use Rattle.basics.specs.Lists.{joined, put_front}
use Rattle.basics.specs.Laws.Each.{joined_more}
use Rattle.basics.specs.Laws.Puts.{put_room, put_behind}
use Rattle.basics.specs.Laws.Tests.{cases}
use Rattle.shelf.specs.Laws.Escaped.{byte_fits, fits}
use mir.Syntax.{w64}
use mir.Val.{Fits}
use Rattle.shelf.specs.Escaped.{unseen, by_digits, escaped_byte, escaped, escaped_length, escaped_in}

-- what one byte is shown by, and put in place
module _ (b : ℕ) (out next : List ℕ) where
  pub byte_two : b ≡ 92 → next ≡ put_front (92 ∷ 92 ∷ []) out → (2 ≡ length (escaped_byte b)) × (next ≡ put_front (escaped_byte b) out)
  unfolding escaped_byte
  byte_two e q = (rw (eq-eqb _ _ e), rw (eq-eqb _ _ e) q)

  pub byte_one : (b ≡ 92 → ⊥) → 0x20 ≤ b → b ≤ 0x7E → next ≡ put_front (b ∷ []) out → (1 ≡ length (escaped_byte b)) × (next ≡ put_front (escaped_byte b) out)
  unfolding escaped_byte
  byte_one h l g q = (rw (ne_eqb _ _ h, le-ltb _ _ l, le-ltb _ _ g), rw (ne_eqb _ _ h, le-ltb _ _ l, le-ltb _ _ g) q)

  pub byte_four : (b ≡ 92 → ⊥) → (0x20 ≤ b → b ≤ 0x7E → ⊥) → (bytes : List ℕ) → bytes ≡ by_digits b → next ≡ put_front bytes out
      → (4 ≡ length (escaped_byte b)) × (next ≡ put_front (escaped_byte b) out)
  unfolding escaped_byte
  byte_four h d bytes e q =
      let u : unseen b ≡ true =
      cases (ltb b 0x20) (λ t. rw t)
      (λ t. cases (ltb 0x7E b) (λ v. rw (t, v)) (λ v. absurd (d (ltb-false _ _ t) (ltb-false _ _ v)))) in
      (rw (ne_eqb _ _ h, u), rw (ne_eqb _ _ h, u, ← e) q)

-- the first i bytes of a text are shown, by the first k bytes of the buffer
pub record Putting (text out₀ out : List ℕ) (k i : ℕ) : Type 0 where
  pub up : i ≤ length text
  pub room : 4 * length text ≤ length out₀
  pub place : k ≡ length (escaped (take i text))
  pub low : k ≤ 4 * i
  pub long : length out ≡ length out₀
  pub put : out ≡ put_front (escaped (take i text)) out₀

pub put_none : (text out : List ℕ) → 4 * length text ≤ length out → Putting text out out 0 0
unfolding joined
put_none text out h =
    record { up = omega arith; room = h; place = refl; low = omega arith; long = refl; put = sym (put_room [] out (omega arith)) }

module _ (text out₀ out : List ℕ) (k i : ℕ) (c : Putting text out₀ out k i) (h : i < length text) where
  pub put_within : k ≤ length out
  put_within = omega (arith, c.low, c.room, c.long)

  pub put_fits : length out₀ < 2 ^ 64 → (n : ℕ) → n ≡ length (escaped_byte (get_or text i 0)) → Fits w64 (k + n)
  put_fits l n e = omega (arith, c.low, c.room, byte_fits (get_or text i 0))

  pub put_more : (n a : ℕ) (ys : List ℕ) → n ≡ length (escaped_byte (get_or text i 0)) → a ≡ length out - k → ys ≡ put_front (escaped_byte (get_or text i 0)) (take a (drop k out))
      → Putting text out₀ (put_mid k a out ys) (k + n) (i + 1)
  put_more n a ys en ea ey =
      let y : List ℕ = escaped_byte (get_or text i 0) in
      let x : List ℕ = escaped (take i text) in
      let t : take (i + 1) text ≡ take i text ++ (get_or text i 0 ∷ []) = rw add-one (take-suc text i 0 h) in
      let e : x ++ y ≡ escaped (take (i + 1) text) = sym (joined_more escaped_byte (take i text) (get_or text i 0)) ∙ ap escaped (sym t) in
      let f : length x + length y ≤ length out₀ = omega (arith, c.low, c.room, c.place, byte_fits (get_or text i 0)) in
      let l : length (x ++ y) ≡ length x + length y = length-append x y in
      let p : put_mid k a out ys ≡ put_front (x ++ y) out₀ = put_behind x y out₀ out ys k a f c.place ea c.put ey in
      record {
        up = omega arith;
        room = c.room;
        place = omega (arith, length-append x y, ap length e, c.place);
        low = omega (arith, c.low, byte_fits (get_or text i 0));
        long = ap length (p ∙ put_room (x ++ y) out₀ (omega (arith, l))) ∙ length-append (x ++ y) (drop (length (x ++ y)) out₀) ∙ omega (arith, l, length-drop (length (x ++ y)) out₀, f);
        put = p ∙ ap (λ (z : List ℕ). put_front z out₀) e;
      }

module _ (text out₀ out : List ℕ) (k i : ℕ) (c : Putting text out₀ out k i) (h : length text ≤ i) where
  all_shown : escaped (take i text) ≡ escaped text
  all_shown = ap escaped (take_all i text h)

  pub put_length : k ≡ length (escaped text)
  put_length = c.place ∙ ap length all_shown

  pub put_is : out ≡ escaped text ++ drop (length (escaped text)) out₀
  put_is = c.put ∙ ap (λ (x : List ℕ). put_front x out₀) all_shown ∙ put_room (escaped text) out₀ (omega (arith, fits text, c.room))

-- the whole, by the code's test
module _ (out text : List ℕ) where
  pub escape_short : length out / 4 < length text → (0 ≡ escaped_length out text) × (out ≡ escaped_in out text)
  unfolding escaped_length escaped_in
  escape_short h = (rw (lt-ltb _ _ h), rw (lt-ltb _ _ h))

  module _ (h : length text ≤ length out / 4) where
    pub done_length : (r : ℕ) → r ≡ length (escaped text) → r ≡ escaped_length out text
    unfolding escaped_length
    done_length r e = e ∙ rw (le-ltb _ _ h)

    pub done_is : (out₁ : List ℕ) → out₁ ≡ escaped text ++ drop (length (escaped text)) out → out₁ ≡ escaped_in out text
    unfolding escaped_in
    done_is out₁ e = e ∙ rw (le-ltb _ _ h)
