-- What the code decides of a byte and the next: a law for each way out.
use Prim.Native.Nat.{ℕ, zero, suc, ◌+◌, ◌<◌, ◌≤◌}
use mathlib.Core.Path.{◌≡◌, refl, ap, ◌∙◌, sym}
use mathlib.Core.Bool.{Bool, true, false, not, cond}
use mathlib.Core.List.{List}
use native.Mathlib.Omega.{arith}
use native.Mathlib.Numerals.{add-one}
use lib.Dec.{ltb}
use lib.ListN.{length, get_or, drop, take, get_or-eq_default}
use borrow.Author.Tests.{ltb-true, ltb-false}
use Rattle.std.specs.List.{count_by}
use Rattle.std.proofs.lemmas.List.{take_all}
use Rattle.std.proofs.lemmas.List.Sums.{count_by_more_yes, count_by_more_no}
use Rattle.basics.specs.Counts.{count}
use Rattle.basics.specs.Laws.Tests.{cases}
use Rattle.text.specs.Bytes.{allowed, foreign, until}
use Rattle.text.specs.Lines.{ends}
use Rattle.text.specs.Laws.Bytes.{until_hit, until_miss}

-- the first that is not allowed
module _ (s : List ℕ) (i x n : ℕ) (u : Bool) (so : x ≡ i + until foreign (drop i s)) (l : i < length s) (next : n ≡ get_or s (i + 1) 0) (p : u ≡ allowed (get_or s i 0) n) where
  pub foreign_here : not u ≡ true → i ≡ x
  foreign_here e = until_hit foreign s i x so n l next (ap not (sym p) ∙ e)

  pub foreign_later : not u ≡ false → x ≡ i + 1 + until foreign (drop (i + 1) s)
  foreign_later e = until_miss foreign s i x so n l next (ap not (sym p) ∙ e)

-- the first that ends a line
module _ (s : List ℕ) (i x n : ℕ) (u : Bool) (so : x ≡ i + until ends (drop i s)) (l : i < length s) (next : n ≡ get_or s (i + 1) 0) (p : u ≡ ends (get_or s i 0) n) where
  pub ends_here : u ≡ true → i ≡ x
  ends_here e = until_hit ends s i x so n l next (sym p ∙ e)

  pub ends_later : u ≡ false → x ≡ i + 1 + until ends (drop (i + 1) s)
  ends_later e = until_miss ends s i x so n l next (sym p ∙ e)

-- the first n bytes that pass a test are the places below n that hold such a byte
module _ (p : ℕ → Bool) (z : p 0 ≡ false) (s : List ℕ) where
  count_step : (n : ℕ) → count_by p (take (n + 1) s) ≡ cond (p (get_or s n 0)) (suc (count_by p (take n s))) (count_by p (take n s))
  count_step n =
      cases (ltb n (length s))
      (λ t.
      let h : n < length s = ltb-true n (length s) t in
      cases (p (get_or s n 0)) (λ e. rw e (count_by_more_yes p s n 0 h e ∙ add-one _)) (λ e. rw e (count_by_more_no p s n 0 h e)))
      (λ t.
      let h : length s ≤ n = ltb-false n (length s) t in
      rw (get_or-eq_default s 0 h, z, take_all (n + 1) s (omega arith), take_all n s h))

  pub count_front : (n : ℕ) → count_by p (take n s) ≡ count (λ i. p (get_or s i 0)) n
  unfolding count
  count_front zero = refl
  count_front (suc n) = rw (← add-one n) (count_step n ∙ ap (λ (m : ℕ). cond (p (get_or s n 0)) (suc m) m) (count_front n))
