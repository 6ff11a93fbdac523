-- Words stored one after the other, a paragraph at a time.
use Prim.Native.Nat.{ℕ, ◌≤◌, ◌<◌, ◌+◌, ◌-◌, ◌*◌}
use mathlib.Core.List.{List, ◌++◌}
use mathlib.Core.Path.{◌≡◌, refl, sym, ◌∙◌, ap}
use mathlib.Core.Logic.{inl, inr}
use native.Mathlib.Omega.{arith}
use lib.Dec.{ltb}
use lib.ListN.{length, get_or, take, drop}
use borrow.Author.Tests.{ltb-true, ltb-false}
use borrow.Rule.Slice.PartMut.{put_mid}
use Rattle.std.proofs.Common.{ext_get_or, get_or-take, get_or-drop, get_or-append-add, length-append, length-drop, length-take-le}
use Rattle.std.proofs.Math.ListN.{get_or-append}
use Rattle.basics.specs.Lists.{laid}
use Rattle.basics.specs.Tables.{table}
use Rattle.basics.specs.Laws.Tables.{length_table, get_d_table}
use Rattle.basics.specs.Laws.Tests.{cases}
use Rattle.places.specs.Limits.{paragraph_size}
use Rattle.basics.specs.Laws.Lists.{laid_none, laid_in, laid_out, laid_add, length_laid}

-- a part that was lent and is a table now
module _ (a k : ℕ) (w : ℕ → ℕ) (m : List ℕ) (fits : a + k ≤ length m) where
  front : length (take a m) ≡ a
  front = length-take-le a m (omega arith)

  abbrev rest : List ℕ
  rest = table k w ++ drop k (drop a m)

  long : length (take a m ++ rest) ≡ length m
  long =
      length-append (take a m) rest
      ∙ omega (arith, front, length-append (table k w) (drop k (drop a m)), length_table k w, length-drop k (drop a m), length-drop a m)

  inside : (j : ℕ) → get_or (take a m ++ rest) (a + j) 0 ≡ get_or rest j 0
  inside j = rw front at (get_or-append-add (take a m) rest j 0)

  at : (i : ℕ) → get_or (take a m ++ rest) i 0 ≡ get_or (laid a k w m) i 0
  at i =
      cases (ltb i a)
      (λ q.
      let l : i < a = ltb-true i a q in
      get_or-append (take a m) rest 0 i (omega (arith, front)) ∙ get_or-take a m i 0 l ∙ sym (laid_out a w m k i (inl l)))
      (λ q. behind (i - a) (let l : a ≤ i = ltb-false i a q in omega arith))
    where
      behind : (j : ℕ) → i ≡ a + j → get_or (take a m ++ rest) i 0 ≡ get_or (laid a k w m) i 0
      behind j e =
          rw e
          (inside j
          ∙ cases (ltb j k)
          (λ q.
          let l : j < k = ltb-true j k q in
          get_or-append (table k w) (drop k (drop a m)) 0 j (omega (arith, length_table k w)) ∙ get_d_table 0 k w j l ∙ sym (laid_in a w m k j l (omega arith)))
          (λ q. past (j - k) (let l : k ≤ j = ltb-false j k q in omega arith)))
        where
          past : (n : ℕ) → j ≡ k + n → get_or rest j 0 ≡ get_or (laid a k w m) (a + j) 0
          past n z =
              rw z
              (rw (length_table k w) at (get_or-append-add (table k w) (drop k (drop a m)) n 0)
              ∙ get_or-drop k (drop a m) n 0 ∙ get_or-drop a m (k + n) 0 ∙ sym (laid_out a w m k (a + (k + n)) (inr (omega arith))))

  pub laid_mid : put_mid a k m (table k w) ≡ laid a k w m
  laid_mid = ext_get_or 0 (take a m ++ rest) (laid a k w m) (long ∙ sym (length_laid a w m k)) (λ i l. at i)

-- a paragraph at a time
pub record Pouring (m₀ : List ℕ) (n : ℕ) (w : ℕ → ℕ) (p : ℕ) (m : List ℕ) : Type 0 where
  pub up : p ≤ n
  pub long : length m ≡ length m₀
  pub is : m ≡ laid 0 (paragraph_size * p) w m₀

module _ (m₀ : List ℕ) (n : ℕ) (w : ℕ → ℕ) where
  pub pouring_none : Pouring m₀ n w 0 m₀
  pouring_none = record { up = omega arith; long = refl; is = sym (laid_none 0 w m₀) }

  pub pouring_more : (p : ℕ) (m m' : List ℕ) → Pouring m₀ n w p m → p < n → m' ≡ laid (paragraph_size * p) paragraph_size (λ i. w (paragraph_size * p + i)) m → Pouring m₀ n w (p + 1) m'
  pouring_more p m m' c h e =
      let t : m' ≡ laid 0 (paragraph_size * p + paragraph_size) w m₀ =
      let z : paragraph_size * p ≡ 0 + paragraph_size * p = omega arith in
      e ∙ ap (laid (paragraph_size * p) paragraph_size (λ i. w (paragraph_size * p + i))) c.is
      ∙ ap (λ (b : ℕ). laid b paragraph_size (λ i. w (paragraph_size * p + i)) (laid 0 (paragraph_size * p) w m₀)) z
      ∙ sym (laid_add 0 (paragraph_size * p) paragraph_size w m₀) in
      let q : paragraph_size * p + paragraph_size ≡ paragraph_size * (p + 1) = omega arith in
      let u : m' ≡ laid 0 (paragraph_size * (p + 1)) w m₀ = t ∙ ap (λ (k : ℕ). laid 0 k w m₀) q in
      record { up = omega arith; long = ap length u ∙ length_laid 0 w m₀ (paragraph_size * (p + 1)); is = u }

  pub pouring_part : (p k : ℕ) (m ys : List ℕ) → Pouring m₀ n w p m → p < n → paragraph_size * n ≤ length m₀ → k ≡ paragraph_size
      → ys ≡ table paragraph_size (λ i. w (paragraph_size * p + i)) → Pouring m₀ n w (p + 1) (put_mid (paragraph_size * p) k m ys)
  pouring_part p k m ys c h fits ek ey =
      rw (ek, ey) (pouring_more p m _ c h (laid_mid (paragraph_size * p) paragraph_size (λ i. w (paragraph_size * p + i)) m (omega (arith, c.long))))

  pub pouring_all : (p : ℕ) (m : List ℕ) → Pouring m₀ n w p m → n ≤ p → m ≡ laid 0 (paragraph_size * n) w m₀
  pouring_all p m c h = let e : p ≡ n = omega (arith, c.up) in rw e at c.is
