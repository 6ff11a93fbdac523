-- Frames: what a whole block's frame says, a block that stands at a place is framed there, and what is framed is a block.
use Rattle.std.specs.Prelude.{ℕ, ◌+◌, ◌-◌, ◌<◌, ◌≤◌, ◌≡◌, refl, List, [], ◌++◌, Bool, true, false, cond, not, ◌||◌, get_or, take, drop, eqb, leb, ltb}
use Rattle.std.proofs.Common.{sym, ap, ◌∙◌, arith, length-drop, take-append-drop, drop-drop, take-take}
use borrow.Author.Tests.{le-ltb, le-leb, lt-leb, eq-eqb, ne_eqb, eqb-true, leb-true, leb-false, ltb-false}
use Rattle.std.proofs.Math.ListN.{length}
use Rattle.std.proofs.lemmas.List.{take-append-le}
use Rattle.basics.specs.Bytes.{at16}
use Rattle.basics.specs.Lists.{part}
use Rattle.basics.specs.Laws.Lists.{length_part, get_d_part}
use Rattle.basics.specs.Laws.Tests.{cases, or_false_left, or_false_right, not-false}
use Rattle.basics.specs.Laws.Stands.{stands_in, stands_at, stands_after, stands_length}
use Rattle.sums.specs.Crc.{dowcrc_of}
use Rattle.blocks.specs.declared.Frame.TheVariants.{Over, Cut, Framed}
use Rattle.blocks.specs.Blocks.{type_of, size_said, Block}
use Rattle.blocks.specs.Frames.{ends_at, next_of, cut_at, frame_at}

-- a whole block at p, of type t, with the next at q
pub record FrameIs (s : List ℕ) (p t q : ℕ) : Type 0 where
  pub typed : t ≡ get_or s p 0
  pub next : q ≡ next_of s p
  pub whole : cut_at s p ≡ false
  pub starts : p + 8 ≤ q
  pub ends : q ≤ length s

cut_ends : (s : List ℕ) (p : ℕ) → cut_at s p ≡ false → next_of s p ≤ length s
unfolding cut_at
cut_ends s p e =
    let sum : Bool = not (eqb (dowcrc_of (part s p (p + 3))) (get_or s (p + 3) 0)) in
    let past : Bool = ltb (length s) (next_of s p) in
    ltb-false _ _ (or_false_right sum past (or_false_right (ltb (length s) (p + 8)) (sum || past) e))

pub frame_held : (s : List ℕ) (p t q : ℕ) → frame_at s p ≡ Framed t q → FrameIs s p t q
unfolding frame_at
frame_held s p t q e =
    cases (ends_at s p)
    (λ a. let x : Over ≡ Framed t q = simp a at e in let z : ◌≡◌ {A = ℕ} 0 1 = cc in absurd (omega arith))
    (λ a.
    cases (cut_at s p)
    (λ b. let x : Cut ≡ Framed t q = simp (a, b) at e in let z : ◌≡◌ {A = ℕ} 0 1 = cc in absurd (omega arith))
    (λ b.
    let x : Framed (get_or s p 0) (next_of s p) ≡ Framed t q = simp (a, b) at e in
    let et : t ≡ get_or s p 0 = cc in
    let eq : q ≡ next_of s p = cc in
    record { typed = et; next = eq; whole = b; starts = omega arith; ends = rw eq (cut_ends s p b) }))

-- the image's end, and a block that is cut
pub over_ends : (s : List ℕ) (p : ℕ) → frame_at s p ≡ Over → ends_at s p ≡ true
unfolding frame_at
over_ends s p e = by (ends_at s p) (cut_at s p) e
  where
    by : (a b : Bool) → cond a Over (cond b Cut (Framed (get_or s p 0) (next_of s p))) ≡ Over → a ≡ true
    by true b e = refl
    by false true e = let z : ◌≡◌ {A = ℕ} 0 1 = cc in absurd (omega arith)
    by false false e = let z : ◌≡◌ {A = ℕ} 0 1 = cc in absurd (omega arith)

pub end_frame : (s : List ℕ) (p : ℕ) → ends_at s p ≡ true → frame_at s p ≡ Over
unfolding frame_at
end_frame s p e = rw e

pub cut_goes : (s : List ℕ) (p : ℕ) → frame_at s p ≡ Cut → ends_at s p ≡ false
unfolding frame_at
cut_goes s p e = cases (ends_at s p) (λ a. let x : Over ≡ Cut = rw a at e in let z : ◌≡◌ {A = ℕ} 0 1 = cc in absurd (omega arith)) (λ a. a)

pub ends_is : (s : List ℕ) (p : ℕ) (r : List ℕ) → drop p s ≡ r → ends_at s p ≡ ends_at r 0
ends_is s p r st =
    let t : get_or s p 0 ≡ get_or r 0 0 = stands_at s p [] r st 0 p (omega arith) in
    let l : length r ≡ length s - p = sym (ap length st) ∙ length-drop p s in
    cases (leb (length r) 0)
    (λ e.
    let z : length r ≤ 0 = leb-true _ _ e in
    let k : length s ≤ p = omega arith in
    rw (e, le-leb _ _ k))
    (λ e.
    let z : 0 < length r = leb-false _ _ e in
    let k : p < length s = omega arith in
    rw (e, lt-leb _ _ k, t))

-- a block x at p, with r behind it
module _ (s : List ℕ) (p : ℕ) (x r : List ℕ) (st : drop p s ≡ x ++ r) (b : Block x) where
  pub block_fits : p + length x + length r ≡ length s
  block_fits = omega (arith, stands_length s p x r st, b.long)

  byte : (i q : ℕ) → q ≡ p + i → i < 8 → get_or s q 0 ≡ get_or x i 0
  byte i q e h = stands_in s p x r st i q e (omega (arith, b.long))

  pub type_is : get_or s p 0 ≡ type_of x
  type_is = byte 0 p (omega arith) (omega arith)

  size_is : at16 s (p + 1) ≡ size_said x
  size_is = omega (arith, byte 1 (p + 1) refl (omega arith), byte 2 (p + 1 + 1) (omega arith) (omega arith))

  pub next_is : next_of s p ≡ p + length x
  next_is = omega (arith, size_is, b.long)

  start_sum : dowcrc_of (part s p (p + 3)) ≡ get_or s (p + 3) 0
  start_sum =
      let k : p + 3 - p ≡ 3 = omega arith in
      ap dowcrc_of (ap (λ (n : ℕ). take n (drop p s)) k ∙ ap (take 3) st ∙ take-append-le 3 x r (omega (arith, b.long)))
      ∙ b.sum ∙ sym (byte 3 (p + 3) refl (omega arith))

  whole_is : cut_at s p ≡ false
  unfolding cut_at
  whole_is =
      let h : p + 8 ≤ length s = omega (arith, block_fits, b.long) in
      let k : next_of s p ≤ length s = omega (arith, next_is, block_fits) in
      simp (le-ltb _ _ h, eq-eqb _ _ start_sum, le-ltb _ _ k)

  pub frame_is : frame_at s p ≡ Framed (type_of x) (p + length x)
  unfolding frame_at
  frame_is =
      let h : p < length s = omega (arith, block_fits, b.long) in
      rw (lt-leb _ _ h, type_is, ne_eqb _ _ b.going, whole_is, next_is)

  pub rest_is : drop (p + length x) s ≡ r
  rest_is = stands_after s p x r st (p + length x) refl

-- what is framed is a block
frame_goes : (s : List ℕ) (p t q : ℕ) → frame_at s p ≡ Framed t q → get_or s p 0 ≡ 0xFF → ⊥
unfolding frame_at
frame_goes s p t q e h =
    let i : FrameIs s p t q = frame_held s p t q e in
    let l : p < length s = omega (arith, i.starts, i.ends) in
    let x : Over ≡ Framed t q = rw (lt-leb _ _ l, h) at e in
    let z : ◌≡◌ {A = ℕ} 0 1 = cc in
    omega arith

whole_sum : (s : List ℕ) (p : ℕ) → cut_at s p ≡ false → dowcrc_of (part s p (p + 3)) ≡ get_or s (p + 3) 0
unfolding cut_at
whole_sum s p e =
    let sum : Bool = eqb (dowcrc_of (part s p (p + 3))) (get_or s (p + 3) 0) in
    let past : Bool = ltb (length s) (next_of s p) in
    eqb-true _ _ (not-false sum (or_false_left (not sum) past (or_false_right (ltb (length s) (p + 8)) (not sum || past) e)))

pub framed_block : (s : List ℕ) (p t q : ℕ) → frame_at s p ≡ Framed t q → Block (part s p q)
framed_block s p t q e =
    let i : FrameIs s p t q = frame_held s p t q e in
    let l : length (part s p q) ≡ q - p = length_part s p q i.ends in
    let b₁ : get_or (part s p q) 1 0 ≡ get_or s (p + 1) 0 = get_d_part s p q 1 0 (omega (arith, i.starts)) in
    let b₂ : get_or (part s p q) 2 0 ≡ get_or s (p + 2) 0 = get_d_part s p q 2 0 (omega (arith, i.starts)) in
    let b₃ : get_or (part s p q) 3 0 ≡ get_or s (p + 3) 0 = get_d_part s p q 3 0 (omega (arith, i.starts)) in
    let b₀ : get_or (part s p q) 0 0 ≡ get_or s p 0 = get_d_part s p q 0 0 (omega (arith, i.starts)) ∙ ap (λ (j : ℕ). get_or s j 0) (omega arith) in
    let two : p + 1 + 1 ≡ p + 2 = omega arith in
    let n : at16 s (p + 1) ≡ size_said (part s p q) = rw (two, b₁, b₂) in
    let k : p + 3 - p ≡ 3 = omega arith in
    record {
      long = omega (arith, i.next);
      sum =
          ap dowcrc_of (take-take 3 (q - p) (drop p s) (omega (arith, i.starts)) ∙ ap (λ (j : ℕ). take j (drop p s)) (sym k)) ∙ whole_sum s p i.whole ∙ sym b₃;
      going = λ z. frame_goes s p t q e (sym b₀ ∙ z);
    }

pub framed_type : (s : List ℕ) (p t q : ℕ) → frame_at s p ≡ Framed t q → t ≡ type_of (part s p q)
framed_type s p t q e =
    let i : FrameIs s p t q = frame_held s p t q e in
    i.typed ∙ sym (get_d_part s p q 0 0 (omega (arith, i.starts)) ∙ ap (λ (j : ℕ). get_or s j 0) (omega arith))

pub framed_stands : (s : List ℕ) (p q : ℕ) → p ≤ q → drop p s ≡ part s p q ++ drop q s
framed_stands s p q h =
    let k : p + (q - p) ≡ q = omega arith in
    sym (take-append-drop (q - p) (drop p s)) ∙ ap (◌++◌ (part s p q)) (drop-drop (q - p) p s ∙ ap (λ (j : ℕ). drop j s) k)
