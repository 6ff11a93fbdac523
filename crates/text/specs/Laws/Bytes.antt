-- The first byte of a text that passes a test of it and of the next: what it is, and that it is found place by place.
use Prim.Native.Nat.{ℕ, zero, suc, ◌+◌, ◌<◌, ◌≤◌}
use mathlib.Core.List.{List, [], ◌∷◌}
use Rattle.std.specs.Prelude.{◌≡◌, Bool, true, false, cond, length}
use Rattle.std.proofs.Math.Path.{ap, sym}
use Rattle.std.proofs.Common.{◌∙◌, add-one, drop_of_length-le}
use native.Mathlib.Omega.{arith}
use Rattle.std.proofs.Math.ListN.{get_or, drop}
use Rattle.std.proofs.Math.Seq.{drop-cons, get_or-drop}
use Rattle.basics.specs.Laws.Tests.{cases}
use Rattle.text.specs.Bytes.{until}

-- the test of the byte at a place
abbrev pub passes_at : (ℕ → ℕ → Bool) → List ℕ → ℕ → Bool
passes_at f s i = f (get_or s i 0) (get_or s (suc i) 0)

module _ (f : ℕ → ℕ → Bool) where
  pub until_most : (s : List ℕ) → until f s ≤ length s
  unfolding until
  until_most [] = omega arith
  until_most (b ∷ s) = cases (f b (get_or s 0 0)) (λ e. rw e (omega arith)) (λ e. rw e (omega (arith, until_most s)))

  -- the byte that is found passes, and none before it does
  pub until_passes : (s : List ℕ) → until f s < length s → passes_at f s (until f s) ≡ true
  unfolding until
  until_passes [] h = absurd (omega arith)
  until_passes (b ∷ s) h =
      cases (f b (get_or s 0 0)) (λ e. rw e e)
      (λ e. let l : suc (until f s) < suc (length s) = rw e at h in rw e (until_passes s (omega arith)))

  pub until_before : (s : List ℕ) (i : ℕ) → i < until f s → passes_at f s i ≡ false
  unfolding until
  until_before [] i h = absurd (omega arith)
  until_before (b ∷ s) zero h = cases (f b (get_or s 0 0)) (λ e. let l : 0 < 0 = rw e at h in absurd (omega arith)) (λ e. e)
  until_before (b ∷ s) (suc i) h =
      cases (f b (get_or s 0 0)) (λ e. let l : suc i < 0 = rw e at h in absurd (omega arith))
      (λ e. let l : suc i < suc (until f s) = rw e at h in until_before s i (omega arith))

-- a loop that has come to place i, and x is the place that it looks for; n is the byte behind i
module _ (f : ℕ → ℕ → Bool) (s : List ℕ) (i x : ℕ) (so : x ≡ i + until f (drop i s)) where
  pub until_past : length s ≤ i → i ≡ x
  unfolding until
  until_past h = let z : until f (drop i s) ≡ 0 = rw (drop_of_length-le s h) in omega arith

  module _ (n : ℕ) (l : i < length s) (next : n ≡ get_or s (i + 1) 0) where
    step : (t : Bool) → f (get_or s i 0) n ≡ t → x ≡ i + cond t 0 (suc (until f (drop (i + 1) s)))
    unfolding until
    step t e =
        let c : drop i s ≡ get_or s i 0 ∷ drop (i + 1) s = drop-cons s i 0 l ∙ ap (λ (k : ℕ). get_or s i 0 ∷ drop k s) (sym (add-one i)) in
        let z : i + 1 + 0 ≡ i + 1 = omega arith in
        let m : get_or (drop (i + 1) s) 0 0 ≡ n = get_or-drop (i + 1) s 0 0 ∙ ap (λ (k : ℕ). get_or s k 0) z ∙ sym next in
        so ∙ rw (c, m, e)

    pub until_hit : f (get_or s i 0) n ≡ true → i ≡ x
    until_hit e = omega (arith, step true e)

    pub until_miss : f (get_or s i 0) n ≡ false → x ≡ i + 1 + until f (drop (i + 1) s)
    until_miss e = omega (arith, step false e)
