-- The form that is chosen can carry the words wherever any form can, and no form that can is shorter.
use Prim.Native.Nat.{ℕ, zero, suc, ◌+◌, ◌-◌, ◌≤◌, ◌<◌, max}
use Rattle.std.specs.Prelude.{◌≡◌, refl, List, Bool, false, not, ◌&&◌, ◌||◌, ◌↔◌, get_or}
use Rattle.std.proofs.Math.Bool.{true}
use Rattle.std.proofs.Common.{⊎_elim, eq-or-lt_of_le}
use native.Mathlib.Omega.{arith}
use Rattle.std.proofs.Math.Dec.{leb}
use Rattle.std.proofs.Math.ListN.{length}
use borrow.Author.Tests.{ltb-true, lt-ltb, leb-true, leb-false, le-leb}
use Rattle.basics.specs.Laws.Tests.{cases, true_is_not_false, and_left, and_right, and_true}
use Rattle.hunk.specs.declared.Form.{Form}
use Rattle.hunk.specs.declared.Form.TheVariants.{Bytes, Decles, Words, Reserved}
use Rattle.hunk.specs.Forms.{is_reserved, most_for, size_for}
use Rattle.hunk.specs.Cuts.{data_words}
use Rattle.hunk.specs.Smallest.{largest, top_of, can_hold, carries, smaller, form_for}

-- what it says that a form carries some words: they are as many as it can count, and it holds each but the last
pub record Carried (f : Form) (words : List ℕ) : Type 0 where
  pub some : 1 ≤ length words
  pub most : length words ≤ most_for f
  pub held : (i : ℕ) → i + 1 < length words → can_hold f (get_or words i 0) ≡ true

pub carried_named : (f : Form) (words : List ℕ) → Carried f words → is_reserved f ≡ false
carried_named Bytes words c = refl
carried_named Decles words c = refl
carried_named Words words c = refl
carried_named Reserved words c = absurd (omega (arith, c.some, c.most))

-- the words that a form holds
holds_none : (f : Form) → is_reserved f ≡ false → can_hold f 0 ≡ true
holds_none Bytes e = refl
holds_none Decles e = refl
holds_none Words e = refl
holds_none Reserved e = true_is_not_false refl e

holds_less : (f : Form) (v w : ℕ) → v ≤ w → can_hold f w ≡ true → can_hold f v ≡ true
holds_less Bytes v w h e = lt-ltb v 0x100 (omega (arith, ltb-true w 0x100 e))
holds_less Decles v w h e = lt-ltb v 0x400 (omega (arith, ltb-true w 0x400 e))
holds_less Words v w h e = refl
holds_less Reserved v w h e = e

holds_max : (f : Form) (v w : ℕ) → can_hold f v ≡ true → can_hold f w ≡ true → can_hold f (max v w) ≡ true
holds_max Bytes v w d e = lt-ltb (max v w) 0x100 (omega (arith, ltb-true v 0x100 d, ltb-true w 0x100 e))
holds_max Decles v w d e = lt-ltb (max v w) 0x400 (omega (arith, ltb-true v 0x400 d, ltb-true w 0x400 e))
holds_max Words v w d e = refl
holds_max Reserved v w d e = e

-- the largest of the first n words: none is larger, and a form holds it where it holds each
pub largest_up : (n : ℕ) (words : List ℕ) (i : ℕ) → i < n → get_or words i 0 ≤ largest n words
unfolding largest
largest_up zero words i h = absurd (omega arith)
largest_up (suc n) words i h =
    let k : i ≤ n = omega arith in
    ⊎_elim (λ e. rw e (omega arith)) (λ l. omega (arith, largest_up n words i l)) (eq-or-lt_of_le k)

largest_held : (f : Form) (n : ℕ) (words : List ℕ) → is_reserved f ≡ false → ((i : ℕ) → i < n → can_hold f (get_or words i 0) ≡ true) → can_hold f (largest n words) ≡ true
unfolding largest
largest_held f zero words e h = holds_none f e
largest_held f (suc n) words e h =
    holds_max f (largest n words) (get_or words n 0) (largest_held f n words e (λ i l. h i (omega arith))) (h n (omega arith))

-- the test says it
module _ (f : Form) (words : List ℕ) where
  carries_so : carries f (length words) (top_of words) ≡ true → Carried f words
  unfolding carries
  carries_so e =
      let n : ℕ = length words in
      let a : leb 1 n ≡ true = and_left (leb 1 n) (leb n (most_for f) && can_hold f (top_of words)) e in
      let r : leb n (most_for f) && can_hold f (top_of words) ≡ true = and_right (leb 1 n) (leb n (most_for f) && can_hold f (top_of words)) e in
      let b : leb n (most_for f) ≡ true = and_left (leb n (most_for f)) (can_hold f (top_of words)) r in
      let c : can_hold f (top_of words) ≡ true = and_right (leb n (most_for f)) (can_hold f (top_of words)) r in
      record {
        some = leb-true 1 n a;
        most = leb-true n (most_for f) b;
        held = λ i l. holds_less f (get_or words i 0) (top_of words) (largest_up (n - 1) words i (omega arith)) c;
      }

  so_carries : Carried f words → carries f (length words) (top_of words) ≡ true
  unfolding carries
  so_carries c =
      let n : ℕ = length words in
      and_true (leb 1 n) (leb n (most_for f) && can_hold f (top_of words)) (le-leb 1 n c.some)
      (and_true (leb n (most_for f)) (can_hold f (top_of words)) (le-leb n (most_for f) c.most)
      (largest_held f (n - 1) words (carried_named f words c) (λ i l. c.held i (omega arith))))

  pub carries_exactly : (carries f (length words) (top_of words) ≡ true) ↔ Carried f words
  carries_exactly = (carries_so, so_carries)

-- x can carry n words, in no more bytes than g
record Least (n top : ℕ) (x g : Form) : Type 0 where
  pub can : carries x n top ≡ true
  pub short : size_for x n ≤ size_for g n

-- one test of two forms, and what it says
lost : (a b c : Bool) → a ≡ true → a && (not b || c) ≡ false → (b ≡ true) × (c ≡ false)
lost true true c p e = (refl, e)
lost true false c p e = true_is_not_false refl e
lost false b c p e = true_is_not_false p refl

won : (a b c : Bool) → b ≡ true → a && (not b || c) ≡ true → (a ≡ true) × (c ≡ true)
won true true c p e = (refl, e)
won true false c p e = true_is_not_false p refl
won false b c p e = true_is_not_false e refl

module _ (n top : ℕ) (f x : Form) where
  wins : Bool
  wins = carries f n top && (not (carries x n top) || leb (size_for f n) (size_for x n))

  smaller_own : carries f n top ≡ true → Least n top (smaller f x n top) f
  unfolding smaller wins
  smaller_own p =
      cases wins (λ e. rw e (record { can = p; short = omega arith }))
      (λ e.
      let l = lost (carries f n top) (carries x n top) (leb (size_for f n) (size_for x n)) p e in
      rw e (record { can = l.0; short = omega (arith, leb-false (size_for f n) (size_for x n) l.1) }))

  smaller_other : (g : Form) → Least n top x g → Least n top (smaller f x n top) g
  unfolding smaller wins
  smaller_other g q =
      cases wins
      (λ e.
      let w = won (carries f n top) (carries x n top) (leb (size_for f n) (size_for x n)) q.can e in
      rw e (record { can = w.0; short = omega (arith, leb-true (size_for f n) (size_for x n) w.1, q.short) }))
      (λ e. rw e q)

least_of_lem : (n top : ℕ) (g : Form) → is_reserved g ≡ false → carries g n top ≡ true → Least n top (smaller Words (smaller Decles Bytes n top) n top) g
least_of_lem n top Words z p = smaller_own n top Words (smaller Decles Bytes n top) p
least_of_lem n top Decles z p = smaller_other n top Words (smaller Decles Bytes n top) Decles (smaller_own n top Decles Bytes p)
least_of_lem n top Bytes z p =
    smaller_other n top Words (smaller Decles Bytes n top) Bytes
    (smaller_other n top Decles Bytes Bytes (record { can = p; short = omega arith }))
least_of_lem n top Reserved z p = true_is_not_false refl z

-- of the forms that carry some words, whichever they are, none has fewer bytes than the one that is chosen, and it carries them too
pub record Preferred (words : List ℕ) (g : Form) : Type 0 where
  pub carried : Carried (form_for words) words
  pub short : size_for (form_for words) (length words) ≤ size_for g (length words)

pub form_smallest : (words : List ℕ) (g : Form) → Carried g words → Preferred words g
unfolding form_for
form_smallest words g c =
    let l : Least (length words) (top_of words) (form_for words) g = least_of_lem (length words) (top_of words) g (carried_named g words c) (so_carries g words c) in
    record { carried = carries_so (form_for words) words l.can; short = l.short }

-- the 16-bit form carries any words that a data block is cut to
pub words_carried : (words : List ℕ) → 1 ≤ length words → length words ≤ data_words → Carried Words words
words_carried words h k = record { some = h; most = k; held = λ i l. refl }
