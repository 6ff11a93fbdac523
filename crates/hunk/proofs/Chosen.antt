-- The form of a data block: one law for each return, with its premises as the code's tests and calls give them.
use Prim.Native.Nat.{ℕ, suc, ◌<◌, ◌+◌, ◌-◌, ◌≤◌, max}
use mathlib.Core.List.{List, [], ◌∷◌}
use mathlib.Core.Path.{◌≡◌, ◌∙◌, ap}
use mathlib.Core.Logic.{◌⊎◌, inl, inr}
use borrow.Author.Tests.{le-leb, lt-leb, leb-true}
use Rattle.basics.specs.Laws.Tests.{cases}
use Rattle.basics.specs.Laws.Lists.{drop_one}
use mathlib.Core.Bool.{Bool, true, false, or-true}
use native.Mathlib.Omega.{arith}
use native.Mathlib.Numerals.{add-one}
use lib.Dec.{leb}
use lib.ListN.{length, get_or, take, drop, length-take}
use Rattle.std.specs.List.{fold}
use Rattle.hunk.specs.declared.Form.{Form}
use Rattle.hunk.specs.declared.Form.TheVariants.{Bytes, Decles, Words}
use Rattle.hunk.specs.Forms.{most_for, size_for}
use Rattle.hunk.specs.Smallest.{largest, can_hold, carries, smaller, form_for}

-- the largest of the first words, by a fold over them
fold_next : (words xs : List ℕ) (k : ℕ) → k + length xs ≤ length words → xs ≡ take (length xs) (drop k words) → fold max (largest k words) xs ≡ largest (k + length xs) words
unfolding largest
fold_next words [] k h e = ap (λ (j : ℕ). largest j words) (omega arith)
fold_next words (x ∷ xs) k h e =
    let d : drop k words ≡ get_or words k 0 ∷ drop (k + 1) words = drop_one words k (k + 1) (omega arith) (omega arith) in
    let f : x ∷ xs ≡ get_or words k 0 ∷ take (length xs) (drop (k + 1) words) = rw d at e in
    let ex : x ≡ get_or words k 0 = cc in
    let es : xs ≡ take (length xs) (drop (k + 1) words) = cc in
    let i : k + suc (length xs) ≡ k + 1 + length xs = omega arith in
    rw (i, ← fold_next words xs (k + 1) (omega arith) es, add-one, ex)

pub largest_folded : (n : ℕ) (words : List ℕ) (r : ℕ) → n ≤ length words → r ≡ fold max 0 (take n words) → r ≡ largest n words
unfolding largest
largest_folded n words r h e =
    let l : length (take n words) ≡ n = length-take n words ∙ omega arith in
    e ∙ fold_next words (take n words) 0 (omega (arith, l)) (rw l) ∙ ap (λ (j : ℕ). largest j words) (omega (arith, l))

-- whether a form can carry the words
module _ (f : Form) (n top m : ℕ) (em : m ≡ most_for f) where
  pub carry_in : (h : Bool) → 1 ≤ n → n ≤ m → h ≡ can_hold f top → h ≡ carries f n top
  unfolding carries
  carry_in h l k e = rw (le-leb _ _ l, le-leb n (most_for f) (rw em at k)) e

  pub carry_out : (h : Bool) → h ≡ false → (1 ≤ n → n ≤ m → ⊥) → h ≡ carries f n top
  unfolding carries
  carry_out h e k =
      e
      ∙ cases (leb 1 n)
      (λ t. cases (leb n (most_for f)) (λ u. absurd (k (leb-true _ _ t) (rw em (leb-true _ _ u)))) (λ u. rw (t, u)))
      (λ t. rw t)

-- of two forms, the one that is taken
module _ (f g : Form) (n top : ℕ) (a : Bool) (ea : a ≡ carries f n top) where
  pub takes_other : a ≡ false → g ≡ smaller f g n top
  unfolding smaller
  takes_other h = rw (← ea, h)

  module _ (x y : ℕ) (ex : x ≡ size_for f n) (ey : y ≡ size_for g n) (b : Bool) (eb : b ≡ carries g n top) where
    pub takes_first : a ≡ true → (b ≡ false) ⊎ ((b ≡ true) × (x ≤ y)) → f ≡ smaller f g n top
    unfolding smaller
    takes_first h (inl k) = rw (← ea, ← eb, h, k)
    takes_first h (inr (t, k)) = rw (← ea, ← eb, h, ← ex, ← ey, le-leb _ _ k, or-true)

    pub takes_shorter : b ≡ true → y < x → g ≡ smaller f g n top
    unfolding smaller
    takes_shorter h k =
        cases a (λ t. rw (← ea, ← eb, h, t, ← ex, ← ey, lt-leb _ _ k)) (λ t. takes_other t)

-- the smallest of the three
pub form_chosen : (words : List ℕ) (top : ℕ) (g r : Form) → top ≡ largest (length words - 1) words → g ≡ smaller Decles Bytes (length words) top
    → r ≡ smaller Words g (length words) top → r ≡ form_for words
unfolding form_for
form_chosen words top g r et eg er = er ∙ rw (eg, et)
