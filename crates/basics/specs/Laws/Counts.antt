-- Counts, and tests of some or of all places: by places, by tests that agree, and a turn more of a loop.
use Rattle.std.specs.Prelude.{ℕ, ◌<◌, zero, suc, ◌≤◌, ◌+◌, Bool, true, ◌||◌, cond, false, ◌&&◌, ◌≡◌, refl, ◌⊎◌, eqb}
use Rattle.std.proofs.Common.{sym, ap, ◌∙◌, inl, inr, ⊎_elim, arith, eq-or-lt_of_le, add-one, eqb-true}
use Rattle.std.proofs.lemmas.Bool.{eqb-false}
use Rattle.basics.specs.Counts.{all, any, count}
use Rattle.basics.specs.Laws.Tests.{and_right, and_left, and_true, or_right, true_is_not_false, or_cases, compare, cases}

pub all_at : (n : ℕ) (f : ℕ → Bool) → all n f ≡ true → (i : ℕ) → i < n → f i ≡ true
unfolding all
all_at zero f e i h = absurd (omega arith)
all_at (suc n) f e i h = last (eq-or-lt_of_le (omega arith)) (λ l. all_at n f (and_right (f n) (all n f) e) i l)
  where
    last : (i ≡ n) ⊎ (i < n) → (i < n → f i ≡ true) → f i ≡ true
    last (inl q) k = rw q (and_left (f n) (all n f) e)
    last (inr l) k = k l

pub all_of : (n : ℕ) (f : ℕ → Bool) → ((i : ℕ) → i < n → f i ≡ true) → all n f ≡ true
unfolding all
all_of zero f h = refl
all_of (suc n) f h = and_true (f n) (all n f) (h n (omega arith)) (all_of n f (λ i l. h i (omega arith)))

pub any_of : (n : ℕ) (f : ℕ → Bool) (i : ℕ) → i < n → f i ≡ true → any n f ≡ true
unfolding any
any_of zero f i h e = absurd (omega arith)
any_of (suc n) f i h e = last (eq-or-lt_of_le (omega arith)) (λ l. any_of n f i l e)
  where
    last : (i ≡ n) ⊎ (i < n) → (i < n → any n f ≡ true) → f n || any n f ≡ true
    last (inl q) k = rw (← q, e)
    last (inr l) k = or_right (f n) (any n f) (k l)

-- a place below n that passes
pub record Place (n : ℕ) (f : ℕ → Bool) : Type 0 where
  pub at : ℕ
  pub below : at < n
  pub passes : f at ≡ true

pub any_at : (n : ℕ) (f : ℕ → Bool) → any n f ≡ true → Place n f
unfolding any
any_at zero f e = true_is_not_false e refl
any_at (suc n) f e = go (or_cases (f n) (any n f) e) (λ q. any_at n f q)
  where
    go : (f n ≡ true) ⊎ (any n f ≡ true) → (any n f ≡ true → Place n f) → Place (suc n) f
    go (inl q) k = record { at = n; below = omega arith; passes = q }
    go (inr q) k = record { at = (k q).at; below = omega (arith, (k q).below); passes = (k q).passes }

one_more : (b : Bool) (n : ℕ) → n ≤ cond b (suc n) n
one_more true n = omega arith
one_more false n = omega arith

at_most : (b : Bool) (m n : ℕ) → m ≤ n → cond b (suc m) m ≤ suc n
at_most true m n h = omega arith
at_most false m n h = omega arith

pub count_most : (f : ℕ → Bool) (n : ℕ) → count f n ≤ n
unfolding count
count_most f zero = omega arith
count_most f (suc n) = at_most (f n) (count f n) n (count_most f n)

pub count_mono : (f : ℕ → Bool) (m n : ℕ) → m ≤ n → count f m ≤ count f n
unfolding count
count_mono f m zero h = let e : m ≡ 0 = omega arith in rw e (omega arith)
count_mono f m (suc n) h = go (eq-or-lt_of_le h) (λ l. count_mono f m n l)
  where
    go : (m ≡ suc n) ⊎ (m < suc n) → (m ≤ n → count f m ≤ count f n) → count f m ≤ cond (f n) (suc (count f n)) (count f n)
    go (inl e) k = rw e (omega arith)
    go (inr l) k = omega (arith, k (omega arith), one_more (f n) (count f n))

-- a place that passes is counted, so that the count before it tells it from any other
pub count_more : (f : ℕ → Bool) (m n : ℕ) → f m ≡ true → m < n → count f m < count f n
unfolding count
count_more f m n e h =
    let s : cond (f m) (suc (count f m)) (count f m) ≡ suc (count f m) = rw e in
    omega (arith, count_mono f (suc m) n h)

pub count_one : (f : ℕ → Bool) (m n : ℕ) → f m ≡ true → f n ≡ true → count f m ≡ count f n → m ≡ n
count_one f m n p q e = go (compare m n)
  where
    go : (m ≡ n) ⊎ ((m < n) ⊎ (n < m)) → m ≡ n
    go (inl h) = h
    go (inr (inl h)) = absurd (omega (arith, count_more f m n p h))
    go (inr (inr h)) = absurd (omega (arith, count_more f n m q h))

pub any_miss : (f : ℕ → Bool) (i : ℕ) → any i f ≡ false → f i ≡ false → any (i + 1) f ≡ false
unfolding any
any_miss f i e h = simp (add-one, e, h)

pub any_missed : (f : ℕ → Bool) (n i : ℕ) → i ≤ n → n ≤ i → any i f ≡ false → false ≡ any n f
any_missed f n i h k e = let d : i ≡ n = omega arith in sym (ap (λ (j : ℕ). any j f) (sym d) ∙ e)

-- tests that agree at each place agree at some, and at each
pub any_same : (n : ℕ) (f g : ℕ → Bool) → ((i : ℕ) → i < n → f i ≡ g i) → any n f ≡ any n g
unfolding any
any_same zero f g h = refl
any_same (suc n) f g h = rw (h n (omega arith), any_same n f g (λ i l. h i (omega arith)))

pub all_same : (n : ℕ) (f g : ℕ → Bool) → ((i : ℕ) → i < n → f i ≡ g i) → all n f ≡ all n g
unfolding all
all_same zero f g h = refl
all_same (suc n) f g h = rw (h n (omega arith), all_same n f g (λ i l. h i (omega arith)))

-- a turn more of a loop that joins tests
pub any_none : (f : ℕ → Bool) → false ≡ any 0 f
unfolding any
any_none f = refl

pub any_more : (f : ℕ → Bool) (k : ℕ) (b r v : Bool) → r ≡ any k f → b ≡ f k → v ≡ b || r → v ≡ any (k + 1) f
unfolding any
any_more f k b r v e g h = rw (add-one, ← e, ← g) h

pub all_none : (f : ℕ → Bool) → true ≡ all 0 f
unfolding all
all_none f = refl

pub all_more : (f : ℕ → Bool) (k : ℕ) (b r v : Bool) → r ≡ all k f → b ≡ f k → v ≡ b && r → v ≡ all (k + 1) f
unfolding all
all_more f k b r v e g h = rw (add-one, ← e, ← g) h

-- counts compared
count_imp_by : (a b : Bool) (m n : ℕ) → (a ≡ true → b ≡ true) → m ≤ n → cond a (suc m) m ≤ cond b (suc n) n
count_imp_by true true m n f h = omega arith
count_imp_by true false m n f h = true_is_not_false (f refl) refl
count_imp_by false true m n f h = omega arith
count_imp_by false false m n f h = h

pub count_imp : (f g : ℕ → Bool) (n : ℕ) → ((i : ℕ) → i < n → f i ≡ true → g i ≡ true) → count f n ≤ count g n
unfolding count
count_imp f g zero h = omega arith
count_imp f g (suc n) h = count_imp_by (f n) (g n) (count f n) (count g n) (h n (omega arith)) (count_imp f g n (λ i l. h i (omega arith)))

-- at most one place more passes, a
but_last : (c d : Bool) (m n : ℕ) → m ≤ n → cond c (suc m) m ≤ cond d (suc n) n + 1
but_last true true m n h = omega arith
but_last true false m n h = omega arith
but_last false true m n h = omega arith
but_last false false m n h = omega arith

but_still : (c d : Bool) (m n : ℕ) → (c ≡ true → d ≡ true) → m ≤ n + 1 → cond c (suc m) m ≤ cond d (suc n) n + 1
but_still true true m n f h = omega arith
but_still true false m n f h = true_is_not_false (f refl) refl
but_still false true m n f h = omega arith
but_still false false m n f h = h

pub count_but : (f g : ℕ → Bool) (a n : ℕ) → ((i : ℕ) → i < n → f i ≡ true → (g i ≡ true) ⊎ (i ≡ a)) → count f n ≤ count g n + 1
unfolding count
count_but f g a zero h = omega arith
count_but f g a (suc n) h =
    cases (eqb n a)
    (λ e.
    but_last (f n) (g n) (count f n) (count g n)
    (count_imp f g n (λ i l t. ⊎_elim (λ q. q) (λ q. absurd (omega (arith, eqb-true n a e))) (h i (omega arith) t))))
    (λ e.
    but_still (f n) (g n) (count f n) (count g n) (λ t. ⊎_elim (λ q. q) (λ q. absurd (eqb-false n a e q)) (h n (omega arith) t))
    (count_but f g a n (λ i l. h i (omega arith))))

-- the first n places and those behind them; the first place and those behind it; the last place
count_on : (b : Bool) (m n : ℕ) → cond b (suc (m + n)) (m + n) ≡ m + cond b (suc n) n
count_on true m n = omega arith
count_on false m n = refl

pub count_add : (f : ℕ → Bool) (n m : ℕ) → count f (n + m) ≡ count f n + count (λ i. f (n + i)) m
unfolding count
count_add f n zero = let e : n + 0 ≡ n = omega arith in rw e (omega arith)
count_add f n (suc m) =
    let e : n + suc m ≡ suc (n + m) = omega arith in
    rw (e, count_add f n m) (count_on (f (n + m)) (count f n) (count (λ i. f (n + i)) m))

pub count_first : (f : ℕ → Bool) (n : ℕ) → count f (suc n) ≡ cond (f 0) 1 0 + count (λ i. f (suc i)) n
unfolding count
count_first f zero = omega arith
count_first f (suc n) =
    ap (λ (m : ℕ). cond (f (suc n)) (suc m) m) (count_first f n) ∙ count_on (f (suc n)) (cond (f 0) 1 0) (count (λ i. f (suc i)) n)

pub count_last : (f : ℕ → Bool) (n : ℕ) → count f (suc n) ≡ count f n + cond (f n) 1 0
unfolding count
count_last f n = by (f n) (count f n)
  where
    by : (b : Bool) (m : ℕ) → cond b (suc m) m ≡ m + cond b 1 0
    by true m = omega arith
    by false m = omega arith

count_or_by : (a b : Bool) (m n k : ℕ) → m ≤ n + k → cond (a || b) (suc m) m ≤ cond a (suc n) n + cond b (suc k) k
count_or_by true true m n k h = omega arith
count_or_by true false m n k h = omega arith
count_or_by false true m n k h = omega arith
count_or_by false false m n k h = h

pub count_or : (f g : ℕ → Bool) (n : ℕ) → count (λ s. f s || g s) n ≤ count f n + count g n
unfolding count
count_or f g zero = omega arith
count_or f g (suc n) = count_or_by (f n) (g n) (count (λ s. f s || g s) n) (count f n) (count g n) (count_or f g n)

-- counting, and the place of a count, by tests that agree
pub count_same : (f g : ℕ → Bool) (n : ℕ) → ((i : ℕ) → i < n → f i ≡ g i) → count f n ≡ count g n
unfolding count
count_same f g zero h = refl
count_same f g (suc n) h = rw (h n (omega arith), count_same f g n (λ i l. h i (omega arith)))

-- places that pass below k are at most k
pub count_below : (f : ℕ → Bool) (k n : ℕ) → ((i : ℕ) → i < n → f i ≡ true → i < k) → count f n ≤ k
unfolding count
count_below f k zero h = omega arith
count_below f k (suc n) h =
    cases (f n) (λ e. rw e (omega (arith, count_most f n, h n (omega arith) e)))
    (λ e. rw e (count_below f k n (λ i l p. h i (omega arith) p)))

-- a search that finds nothing
pub any_nothing : (n : ℕ) (f : ℕ → Bool) → ((i : ℕ) → i < n → f i ≡ false) → any n f ≡ false
any_nothing n f h =
    cases (any n f) (λ e. let p : Place n f = any_at n f e in true_is_not_false p.passes (h p.at p.below)) (λ e. e)
