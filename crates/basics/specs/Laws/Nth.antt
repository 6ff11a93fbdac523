-- The place that passes with so many passing places before it.
use Rattle.std.specs.Prelude.{ℕ, ◌<◌, zero, suc, ◌≤◌, Bool, true, ◌&&◌, false, cond, ◌≡◌, refl, ◌⊎◌, eqb}
use Rattle.std.proofs.Common.{inl, inr, arith, eq-or-lt_of_le, eqb-true, eq-eqb}
use Rattle.std.proofs.lemmas.Bool.{eqb-false}
use Rattle.basics.specs.Counts.{nth, count}
use Rattle.basics.specs.Laws.Tests.{cases, and_left, and_right, true_is_not_false}
use Rattle.basics.specs.Laws.Counts.{count_one, count_same}

pub nth_count : (f : ℕ → Bool) (n m : ℕ) → f m ≡ true → m < n → nth f n (count f m) ≡ m
unfolding nth
nth_count f zero m e h = absurd (omega arith)
nth_count f (suc n) m e h =
    cases (f n && eqb (count f n) (count f m))
    (λ t. rw t (count_one f n m (and_left _ _ t) e (eqb-true (count f n) (count f m) (and_right (f n) _ t))))
    (λ t. rw t (before t (eq-or-lt_of_le (omega arith)) (λ l. nth_count f n m e l)))
  where
    before : f n && eqb (count f n) (count f m) ≡ false → (m ≡ n) ⊎ (m < n) → (m < n → nth f n (count f m) ≡ m) → nth f n (count f m) ≡ m
    before t (inl q) k = true_is_not_false (rw (← q, e) (eq-eqb (count f m) (count f m) refl)) t
    before t (inr l) k = k l

pub nth_same : (f g : ℕ → Bool) (n i : ℕ) → ((j : ℕ) → j < n → f j ≡ g j) → nth f n i ≡ nth g n i
unfolding nth
nth_same f g zero i h = refl
nth_same f g (suc n) i h = rw (h n (omega arith), count_same f g n (λ j l. h j (omega arith)), nth_same f g n i (λ j l. h j (omega arith)))

pub nth_below : (f : ℕ → Bool) (n m i : ℕ) → n ≤ m → 0 < m → nth f n i < m
unfolding nth
nth_below f zero m i h l = l
nth_below f (suc n) m i h l = cases (f n && eqb (count f n) i) (λ e. rw e (omega arith)) (λ e. rw e (nth_below f n m i (omega arith) l))

-- it is there where so many pass
pub record Nth (f : ℕ → Bool) (n i m : ℕ) : Type 0 where
  pub below : m < n
  pub passes : f m ≡ true
  pub before : count f m ≡ i

nth_less : (b : Bool) (c i : ℕ) → i < cond b (suc c) c → b && eqb c i ≡ false → i < c
nth_less true c i h e = omega (arith, eqb-false c i e)
nth_less false c i h e = h

pub nth_is : (f : ℕ → Bool) (n i : ℕ) → i < count f n → Nth f n i (nth f n i)
unfolding nth count
nth_is f zero i h = absurd (omega arith)
nth_is f (suc n) i h =
    cases (f n && eqb (count f n) i)
    (λ t.
    rw t
    (record {
      below = omega arith;
      passes = and_left (f n) (eqb (count f n) i) t;
      before = eqb-true (count f n) i (and_right (f n) (eqb (count f n) i) t);
    }))
    (λ t.
    let k : Nth f n i (nth f n i) = nth_is f n i (nth_less (f n) (count f n) i h t) in
    rw t (record { below = omega (arith, k.below); passes = k.passes; before = k.before }))
