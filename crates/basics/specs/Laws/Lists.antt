-- Parts of a list, and words stored one after the other: which place holds what.
use Prim.Native.Nat.{ℕ, ◌≤◌, ◌-◌, ◌+◌, ◌<◌, zero, suc, min}
use Rattle.std.specs.Prelude.{List, ◌∷◌, [], ◌≡◌, ◌⊎◌, length, drop, take, set, ltb}
use Rattle.std.proofs.Common.{◌∙◌, ap, sym, arith, add-one, eq-or-lt_of_le, length-take, length-drop, length-set, drop_of_length-le, get_or-take, get_or-drop, take_all, get_or-set_same, drop-cons, ltb-true, ltb-false}
use Rattle.std.proofs.Math.Path.{refl}
use Rattle.std.proofs.Math.Logic.{⊎_elim, inl, inr}
use Rattle.std.proofs.Math.ListN.{get_or}
use Rattle.std.proofs.Math.Seq.{take-length, get_or-set_other}
use Rattle.basics.specs.Lists.{part, laid}
use Rattle.basics.specs.Laws.Tests.{cases}

pub length_part : {A : Type 0} (s : List A) (a e : ℕ) → e ≤ length s → length (part s a e) ≡ e - a
length_part s a e h = length-take (e - a) (drop a s) ∙ omega (arith, length-drop a s)

pub get_d_part : {A : Type 0} (s : List A) (a e i : ℕ) (d : A) → a + i < e → get_or (part s a e) i d ≡ get_or s (a + i) d
get_d_part s a e i d h = get_or-take (e - a) (drop a s) i d (omega arith) ∙ get_or-drop a s i d

-- what the code's `&s[a..]` lends
pub part_rest : {A : Type 0} (s : List A) (a : ℕ) → part s a (length s) ≡ drop a s
part_rest s a = ap (λ (n : ℕ). take n (drop a s)) (sym (length-drop a s)) ∙ take-length (drop a s)

module _ (a : ℕ) (w : ℕ → ℕ) (m : List ℕ) where
  -- a loop that stores: none, and one more
  pub laid_none : laid a 0 w m ≡ m
  unfolding laid
  laid_none = refl

  pub laid_more : (n : ℕ) (t : List ℕ) (v : ℕ) → t ≡ laid a n w m → v ≡ w n → set t (a + n) v ≡ laid a (n + 1) w m
  unfolding laid
  laid_more n t v e f = simp (add-one, e, f)

  pub length_laid : (n : ℕ) → length (laid a n w m) ≡ length m
  unfolding laid
  length_laid zero = refl
  length_laid (suc n) = simp (length-set, length_laid n)

  -- a place that is named holds its word, and any other place what it held
  pub laid_out : (n p : ℕ) → (p < a) ⊎ (a + n ≤ p) → get_or (laid a n w m) p 0 ≡ get_or m p 0
  unfolding laid
  laid_out zero p h = refl
  laid_out (suc n) p h =
      get_or-set_other (laid a n w m) (a + n) p (w n) 0 (λ e. ⊎_elim (λ l. omega arith) (λ l. omega arith) h)
      ∙ laid_out n p (⊎_elim (λ l. inl l) (λ l. inr (omega arith)) h)

  pub laid_in : (n i : ℕ) → i < n → a + i < length m → get_or (laid a n w m) (a + i) 0 ≡ w i
  unfolding laid
  laid_in zero i h s = absurd (omega arith)
  laid_in (suc n) i h s = last (eq-or-lt_of_le (omega arith)) (λ l. laid_in n i l s)
    where
      last : (i ≡ n) ⊎ (i < n) → (i < n → get_or (laid a n w m) (a + i) 0 ≡ w i) → get_or (set (laid a n w m) (a + n) (w n)) (a + i) 0 ≡ w i
      last (inl e) k = rw e (get_or-set_same (laid a n w m) (a + n) (w n) 0 (rw length_laid (omega arith)))
      last (inr l) k = get_or-set_other (laid a n w m) (a + n) (a + i) (w n) 0 (λ e. omega arith) ∙ k l

-- equal words are laid alike
pub laid_same : (a n : ℕ) (v w : ℕ → ℕ) (m : List ℕ) → ((i : ℕ) → i < n → v i ≡ w i) → laid a n v m ≡ laid a n w m
unfolding laid
laid_same a zero v w m h = refl
laid_same a (suc n) v w m h = rw (laid_same a n v w m (λ i l. h i (omega arith)), h n (omega arith))

-- words laid in two goes
pub laid_add : (a n k : ℕ) (w : ℕ → ℕ) (m : List ℕ) → laid a (n + k) w m ≡ laid (a + n) k (λ i. w (n + i)) (laid a n w m)
unfolding laid
laid_add a n zero w m = let e : n + 0 ≡ n = omega arith in rw e
laid_add a n (suc k) w m =
    let e : n + suc k ≡ suc (n + k) = omega arith in
    let f : a + (n + k) ≡ a + n + k = omega arith in
    rw (e, laid_add a n k w m, f)

pub drop_one : (s : List ℕ) (i j : ℕ) → i < length s → j ≡ suc i → drop i s ≡ get_or s i 0 ∷ drop j s
drop_one s i j h e = rw e (drop-cons s i 0 h)

pub none_left : (ws : List ℕ) → length ws ≡ 0 → [] ≡ ws
none_left [] e = refl
none_left (w ∷ ws) e = absurd (omega arith)

-- the first n, or all where there are fewer; and what is behind them
pub take_min : {A : Type 0} (n k : ℕ) (l : List A) → n ≡ min k (length l) → take n l ≡ take k l
take_min n k l e =
    cases (ltb (length l) k)
    (λ t. let h : length l < k = ltb-true _ _ t in take_all n l (omega arith) ∙ sym (take_all k l (omega arith)))
    (λ t. let h : k ≤ length l = ltb-false _ _ t in let f : n ≡ k = omega arith in rw f)

pub drop_min : {A : Type 0} (n k : ℕ) (l : List A) → n ≡ min k (length l) → drop n l ≡ drop k l
drop_min n k l e =
    cases (ltb (length l) k)
    (λ t. let h : length l < k = ltb-true _ _ t in drop_of_length-le l {i = n} (omega arith) ∙ sym (drop_of_length-le l {i = k} (omega arith)))
    (λ t. let h : k ≤ length l = ltb-false _ _ t in let f : n ≡ k = omega arith in rw f)
