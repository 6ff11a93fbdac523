-- What places that pass a test give: one place more, how many, a fact of each, what agrees; and lists of words one behind the other.
use Rattle.std.specs.Prelude.{◌+◌, ◌<◌, ◌≤◌, suc, zero, ℕ, ◌≡◌, refl, List, [], ◌++◌, ◌∷◌, Bool, cond, false, true, eqb, get_or, length}
use Rattle.std.proofs.Common.{◌∙◌, ap, sym, append-nil, arith, add-one, length-append, get_or-append-add, eqb-true}
use Rattle.std.proofs.Math.ListN.{get_or-append}
use Rattle.std.proofs.lemmas.Bool.{eqb-false}
use Rattle.basics.specs.Counts.{count}
use Rattle.basics.specs.Laws.Each.{each_append, joined_append}
use Rattle.basics.specs.Laws.Tests.{cases}
use Rattle.basics.specs.Lists.{Each, also, flat, joined, none}
use Rattle.basics.specs.Listed.{listed}

-- one place more
module _ {A : Type 0} (on : ℕ → Bool) (f : ℕ → A) (n : ℕ) where
  pub listed_on : on n ≡ true → listed (n + 1) on f ≡ listed n on f ++ (f n ∷ [])
  unfolding listed
  listed_on e = rw (add-one, e)

  pub listed_off : on n ≡ false → listed (n + 1) on f ≡ listed n on f
  unfolding listed
  listed_off e = rw (add-one, e) (append-nil (listed n on f))

-- as many as pass
pub length_listed : {A : Type 0} (n : ℕ) (on : ℕ → Bool) (f : ℕ → A) → length (listed n on f) ≡ count on n
unfolding listed count
length_listed zero on f = refl
length_listed (suc n) on f =
    length-append (listed n on f) (cond (on n) (f n ∷ []) []) ∙ ap (λ (m : ℕ). m + length (cond (on n) (f n ∷ []) [])) (length_listed n on f)
    ∙ by (on n) (count on n)
  where
    by : (b : Bool) (m : ℕ) → m + length (cond b (f n ∷ []) []) ≡ cond b (suc m) m
    by true m = omega arith
    by false m = omega arith

-- a fact of each
pub each_listed : {A : Type 0} {P : A → Type 0} (n : ℕ) (on : ℕ → Bool) (f : ℕ → A) → ((j : ℕ) → j < n → on j ≡ true → P (f j)) → Each P (listed n on f)
unfolding listed
each_listed zero on f h = none
each_listed {P = P} (suc n) on f h =
    each_append (listed n on f) (cond (on n) (f n ∷ []) []) (each_listed n on f (λ j l. h j (omega arith)))
    (cases (on n) (λ e. rw e (also (h n (omega arith) e) none)) (λ e. rw e none))

-- by tests that agree, and what agrees where they pass
pub listed_same : {A : Type 0} (n : ℕ) (on on' : ℕ → Bool) (f g : ℕ → A) → ((j : ℕ) → j < n → on j ≡ on' j) → ((j : ℕ) → j < n → on' j ≡ true → f j ≡ g j)
    → listed n on f ≡ listed n on' g
unfolding listed
listed_same zero on on' f g h k = refl
listed_same (suc n) on on' f g h k =
    rw (h n (omega arith), listed_same n on on' f g (λ j l. h j (omega arith)) (λ j l e. k j (omega arith) e))
    (cases (on' n) (λ e. rw (e, k n (omega arith) e)) (λ e. rw e))

-- words one behind the other: those of place j stand behind those of the places before it
flat_more : (n : ℕ) (on : ℕ → Bool) (f : ℕ → List ℕ) → flat (listed (suc n) on f) ≡ flat (listed n on f) ++ cond (on n) (f n) []
unfolding listed joined
flat_more n on f =
    joined_append (λ (x : List ℕ). x) (listed n on f) (cond (on n) (f n ∷ []) [])
    ∙ ap (λ (x : List ℕ). flat (listed n on f) ++ x) (by (on n))
  where
    by : (b : Bool) → joined (λ (x : List ℕ). x) (cond b (f n ∷ []) []) ≡ cond b (f n) []
    by true = append-nil (f n)
    by false = refl

pub length_more : (n : ℕ) (on : ℕ → Bool) (f : ℕ → List ℕ) → length (flat (listed (suc n) on f)) ≡ length (flat (listed n on f)) + cond (on n) (length (f n)) 0
length_more n on f =
    ap length (flat_more n on f) ∙ length-append (flat (listed n on f)) (cond (on n) (f n) [])
    ∙ ap (λ (m : ℕ). length (flat (listed n on f)) + m) (by (on n))
  where
    by : (b : Bool) → length (cond b (f n) []) ≡ cond b (length (f n)) 0
    by true = refl
    by false = refl

-- within all of them
flat_within : (n : ℕ) (on : ℕ → Bool) (f : ℕ → List ℕ) (j : ℕ) → j < n → on j ≡ true → length (flat (listed j on f)) + length (f j) ≤ length (flat (listed n on f))
flat_within zero on f j h e = absurd (omega arith)
flat_within (suc n) on f j h e =
    cases (eqb j n)
    (λ z.
    let q : j ≡ n = eqb-true j n z in
    let o : on n ≡ true = ap on (sym q) ∙ e in
    let m : length (flat (listed (suc n) on f)) ≡ length (flat (listed n on f)) + length (f n) = length_more n on f ∙ rw o in
    rw q (omega arith))
    (λ z. omega (arith, flat_within n on f j (omega (arith, eqb-false j n z)) e, length_more n on f))

pub word_listed : (n : ℕ) (on : ℕ → Bool) (f : ℕ → List ℕ) (j i : ℕ) → j < n → on j ≡ true → i < length (f j)
    → get_or (flat (listed n on f)) (length (flat (listed j on f)) + i) 0 ≡ get_or (f j) i 0
word_listed zero on f j i h e l = absurd (omega arith)
word_listed (suc n) on f j i h e l =
    ap (λ (x : List ℕ). get_or x (length (flat (listed j on f)) + i) 0) (flat_more n on f)
    ∙ cases (eqb j n)
    (λ z.
    let q : j ≡ n = eqb-true j n z in
    let o : on n ≡ true = ap on (sym q) ∙ e in
    rw (q, o) (get_or-append-add (flat (listed n on f)) (f n) i 0))
    (λ z.
    let b : j < n = omega (arith, eqb-false j n z) in
    get_or-append (flat (listed n on f)) (cond (on n) (f n) []) 0 (length (flat (listed j on f)) + i) (omega (arith, flat_within n on f j b e))
    ∙ word_listed n on f j i b e l)
