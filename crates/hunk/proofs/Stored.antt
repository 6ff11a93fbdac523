-- The words of one data block, stored: one law for each form, with its premises as the code's tests and calls give them.
use Prim.Native.Nat.{ℕ, ◌+◌, ◌*◌, ◌<◌, ◌≤◌, ◌/◌, ◌-◌, ◌%◌}
use mathlib.Core.List.{List}
use mathlib.Core.Path.{◌≡◌, sym, ◌∙◌, ap, refl}
use native.Mathlib.Omega.{arith}
use native.Mathlib.Nat.{div-one}
use lib.ListN.{get_or, length, set}
use borrow.Author.Tests.{eq-eqb, ne_eqb}
use Rattle.basics.specs.Lists.{laid}
use Rattle.basics.specs.Laws.Lists.{laid_more, laid_none, laid_same, laid_add}
use Rattle.basics.specs.Bytes.{at16}
use Rattle.basics.specs.Laws.Tests.{true_is_not_false}
use Rattle.hunk.specs.declared.Form.{Form}
use Rattle.hunk.specs.declared.Form.TheVariants.{Bytes, Decles, Words, Reserved}
use Rattle.hunk.specs.Forms.{form_of, is_reserved, size_for, size_of, decle, packed, word_for, word}
use Rattle.hunk.specs.Hunk.{form_at}
use Rattle.hunk.specs.Laws.Walk.{Intact, intact}
use Rattle.hunk.specs.Code.Blocks.{Room}

-- the decles of a packet
module _ (s : List ℕ) (at k u l : ℕ) (eu : u ≡ get_or s at 0) (el : l ≡ get_or s (at + 1 + k) 0) where
  pub decle_0 : k ≡ 0 → u / 64 % 4 * 256 + l ≡ decle s at k
  unfolding decle
  decle_0 e = simp (eu, el, e)

  pub decle_1 : k ≡ 1 → u / 16 % 4 * 256 + l ≡ decle s at k
  unfolding decle
  decle_1 e = simp (eu, el, e)

  pub decle_2 : k ≡ 2 → u / 4 % 4 * 256 + l ≡ decle s at k
  unfolding decle
  decle_2 e = simp (eu, el, e)

  pub decle_3 : k < 4 → (k ≡ 0 → ⊥) → (k ≡ 1 → ⊥) → (k ≡ 2 → ⊥) → u % 4 * 256 + l ≡ decle s at k
  unfolding decle
  decle_3 h f g j = let e : k ≡ 3 = omega (arith, f, g, j) in simp (eu, el, e, div-one)

pub ruleset decles = (decle_0, decle_1, decle_2, decle_3)

-- a whole packet, stored
module _ (s : List ℕ) (at a u v w x y : ℕ) (ram : List ℕ) (eu : u ≡ get_or s at 0) (ev : v ≡ get_or s (at + 1) 0) (ew : w ≡ get_or s (at + 2) 0) (ex : x ≡ get_or s (at + 3) 0) (ey : y ≡ get_or s (at + 4) 0) where
  byte : (i j l : ℕ) → i ≡ j → l ≡ get_or s i 0 → l ≡ get_or s j 0
  byte i j l e h = h ∙ ap (λ (k : ℕ). get_or s k 0) e

  laid_one : set ram a (u / 64 % 4 * 256 + v) ≡ laid a 1 (decle s at) ram
  laid_one =
      ap (λ (k : ℕ). set ram k (u / 64 % 4 * 256 + v)) {y = a + 0} (omega arith)
      ∙ laid_more a (decle s at) ram 0 ram (u / 64 % 4 * 256 + v) (sym (laid_none a (decle s at) ram)) (decle_0 s at 0 u v eu (byte (at + 1) (at + 1 + 0) v (omega arith) ev) refl)

  pub packet_laid :
      set (set (set (set ram a (u / 64 % 4 * 256 + v)) (a + 1) (u / 16 % 4 * 256 + w)) (a + 2) (u / 4 % 4 * 256 + x)) (a + 3) (u % 4 * 256 + y) ≡ laid a 4 (decle s at) ram
  packet_laid =
      laid_more a (decle s at) ram 3 _ (u % 4 * 256 + y)
      (laid_more a (decle s at) ram 2 _ (u / 4 % 4 * 256 + x)
      (laid_more a (decle s at) ram 1 _ (u / 16 % 4 * 256 + w) laid_one (decle_1 s at 1 u w eu (byte (at + 2) (at + 1 + 1) w (omega arith) ew) refl))
      (decle_2 s at 2 u x eu (byte (at + 3) (at + 1 + 2) x (omega arith) ex) refl))
      (decle_3 s at 3 u y eu (byte (at + 4) (at + 1 + 3) y (omega arith) ey) (omega arith) (λ e. omega arith) (λ e. omega arith) (λ e. omega arith))

-- packets, stored one after the other, and a short one behind them
packed_at : (s : List ℕ) (at k i : ℕ) → i < 4 → packed s at (4 * k + i) ≡ decle s (at + 5 * k) i
unfolding packed
packed_at s at k i h =
    let d : (4 * k + i) / 4 ≡ k = omega arith in
    let m : (4 * k + i) % 4 ≡ i = omega arith in
    rw (d, m)

pub packed_more : (s : List ℕ) (at a k n : ℕ) (ram₀ ram next : List ℕ) → n ≤ 4 → ram ≡ laid a (4 * k) (packed s at) ram₀ → next ≡ laid (a + 4 * k) n (decle s (at + 5 * k)) ram
    → next ≡ laid a (4 * k + n) (packed s at) ram₀
packed_more s at a k n ram₀ ram next h e f =
    f
    ∙ ap (laid (a + 4 * k) n (decle s (at + 5 * k))) e
    ∙ laid_same (a + 4 * k) n (decle s (at + 5 * k)) (λ i. packed s at (4 * k + i)) _ (λ i l. sym (packed_at s at k i (omega arith)))
    ∙ sym (laid_add a (4 * k) n (packed s at) ram₀)

pub packed_turn : (s : List ℕ) (at a k : ℕ) (ram₀ ram next : List ℕ) → ram ≡ laid a (4 * k) (packed s at) ram₀ → next ≡ laid (a + 4 * k) 4 (decle s (at + 5 * k)) ram
    → next ≡ laid a (4 * (k + 1)) (packed s at) ram₀
packed_turn s at a k ram₀ ram next e f =
    let j : 4 * (k + 1) ≡ 4 * k + 4 = omega arith in
    rw j (packed_more s at a k 4 ram₀ ram next (omega arith) e f)

pub packed_all : (s : List ℕ) (at a n : ℕ) (ram₀ ram next : List ℕ) → ram ≡ laid a (4 * (n / 4)) (packed s at) ram₀ → next ≡ laid (a + 4 * (n / 4)) (n % 4) (decle s (at + 5 * (n / 4))) ram
    → next ≡ laid a n (packed s at) ram₀
packed_all s at a n ram₀ ram next e f =
    packed_more s at a (n / 4) (n % 4) ram₀ ram next (omega arith) e f ∙ ap (λ (j : ℕ). laid a j (packed s at) ram₀) (omega arith)

-- the words of a 16-bit data block, of an 8-bit one, and of a 10-bit one
module _ (s : List ℕ) (p n a : ℕ) (ram₀ ram : List ℕ) (i : ℕ) where
  pub words_more : (v : ℕ) → ram ≡ laid a i (word_for Words s p n) ram₀ → v ≡ at16 s (p + 1 + 2 * i)
      → set ram (a + i) v ≡ laid a (i + 1) (word_for Words s p n) ram₀
  words_more v e f = laid_more a (word_for Words s p n) ram₀ i ram v e f

  pub bytes_more : (v : ℕ) → i + 1 < n → ram ≡ laid a i (word_for Bytes s p n) ram₀ → v ≡ get_or s (p + 1 + i) 0
      → set ram (a + i) v ≡ laid a (i + 1) (word_for Bytes s p n) ram₀
  bytes_more v h e f =
      let d : i + 1 ≡ n → ⊥ = λ z. omega arith in
      laid_more a (word_for Bytes s p n) ram₀ i ram v e (rw (ne_eqb _ _ d) f)

  pub bytes_last : (v : ℕ) → i < n → n ≤ i + 1 → ram ≡ laid a i (word_for Bytes s p n) ram₀ → v ≡ at16 s (p + 1 + i)
      → set ram (a + i) v ≡ laid a n (word_for Bytes s p n) ram₀
  bytes_last v h k e f =
      let d : i + 1 ≡ n = omega arith in
      let q : p + 1 + i ≡ p + (2 + n) - 2 = omega arith in
      rw d at (laid_more a (word_for Bytes s p n) ram₀ i ram v e (rw (eq-eqb _ _ d) (f ∙ ap (at16 s) q)))

pub decles_last : (s : List ℕ) (p n a : ℕ) (ram₀ ram : List ℕ) (v : ℕ) → 1 ≤ n → ram ≡ laid a (n - 1) (packed s (p + 1)) ram₀ → v ≡ at16 s (p + 1 + (n - 1 + 3) / 4 + (n - 1))
    → set ram (a + (n - 1)) v ≡ laid a n (word_for Decles s p n) ram₀
decles_last s p n a ram₀ ram v h e f =
    let d : n - 1 + 1 ≡ n = omega arith in
    let q : p + 1 + (n - 1 + 3) / 4 + (n - 1) ≡ p + (2 + (n + 2) / 4 + n) - 2 = omega arith in
    let w : ram ≡ laid a (n - 1) (word_for Decles s p n) ram₀ =
    e
    ∙ laid_same a (n - 1) (packed s (p + 1)) (word_for Decles s p n) ram₀
    (λ i l. let g : i + 1 ≡ n → ⊥ = λ z. omega arith in rw (ne_eqb _ _ g)) in
    rw d at (laid_more a (word_for Decles s p n) ram₀ (n - 1) ram v w (rw (eq-eqb _ _ d) (f ∙ ap (at16 s) q)))

-- any data block, by its form
pub room_begins : (s : List ℕ) (p n m a : ℕ) → Room s p n m a → p < length s
room_begins s p n m a r = let h : Intact s p = intact s p r.whole in omega arith

module _ (s : List ℕ) (p n m a b : ℕ) (f : Form) (r : Room s p n m a) (eb : b ≡ get_or s p 0) (ef : f ≡ form_of b) where
  form_at_lem : form_at s p ≡ f
  form_at_lem = ap form_of (sym eb) ∙ sym ef

  pub has_words : 1 ≤ n
  has_words = omega (arith, (intact s p r.whole).some, r.words)

  lies : p + size_for f n ≤ length s
  unfolding size_of
  lies = rw (← form_at_lem, r.words) (intact s p r.whole).ends

  stored : (ram next : List ℕ) → next ≡ laid a n (word_for f s p n) ram → next ≡ laid a n (word s p) ram
  unfolding word
  stored ram next e = e ∙ laid_same a n (word_for f s p n) (word s p) ram (λ i l. rw (form_at_lem, ← r.words))

  pub lies_bytes : f ≡ Bytes → p + size_for Bytes n ≤ length s
  lies_bytes e = rw e at lies

  pub lies_decles : f ≡ Decles → p + size_for Decles n ≤ length s
  lies_decles e = rw e at lies

  pub lies_words : f ≡ Words → p + size_for Words n ≤ length s
  lies_words e = rw e at lies

  module _ (ram next : List ℕ) where
    pub stored_bytes : f ≡ Bytes → next ≡ laid a n (word_for Bytes s p n) ram → next ≡ laid a n (word s p) ram
    stored_bytes e k = stored ram next (rw e k)

    pub stored_decles : f ≡ Decles → next ≡ laid a n (word_for Decles s p n) ram → next ≡ laid a n (word s p) ram
    stored_decles e k = stored ram next (rw e k)

    pub stored_words : f ≡ Words → next ≡ laid a n (word_for Words s p n) ram → next ≡ laid a n (word s p) ram
    stored_words e k = stored ram next (rw e k)

  pub stored_reserved : (ram : List ℕ) → f ≡ Reserved → ram ≡ laid a n (word s p) ram
  stored_reserved ram e = true_is_not_false (ap is_reserved (form_at_lem ∙ e)) (intact s p r.whole).named

pub ruleset rooms = (has_words, lies_bytes, lies_decles, lies_words)

pub ruleset stores = (stored_bytes, stored_decles, stored_words, stored_reserved)
