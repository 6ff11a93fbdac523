-- What `all` and `any` of a range answer: `all` and `any` of Counts, where each call of the closure gives the test's value and leaves the closure as it was.
use Rattle.std.specs.Prelude.{ℕ, zero, suc, ◌+◌, List, ◌∷◌, length, Bool, true, false, ◌&&◌, ◌||◌, cond, ◌≡◌, refl, Option}
use Rattle.std.proofs.Common.{◌∙◌, ap, arith, sym}
use Rattle.std.specs.Fn.{Called}
use Rattle.std.specs.Iterator.{YieldsThen}
use Rattle.std.specs.List.{FoldsTo, list_all, list_any, filter, range_with_len}
use Rattle.std.specs.Option.{MatchOption}
use Rattle.std.proofs.lemmas.Iterator.{YieldsList}
use Rattle.std.proofs.lemmas.Iterator.Search.{all_from_yields_List, any_from_yields_List}
use denote.Param.Members.{Mut}
use Rattle.basics.specs.Counts.{all, any, count}
use Rattle.basics.specs.Laws.Counts.{count_first}

swap_and : (a b c : Bool) → a && (b && c) ≡ b && (a && c)
swap_and true b c = refl
swap_and false true c = refl
swap_and false false c = refl

swap_or : (a b c : Bool) → a || (b || c) ≡ b || (a || c)
swap_or true true c = refl
swap_or true false c = refl
swap_or false b c = refl

-- the first place and those behind it
pub all_first : (n : ℕ) (f : ℕ → Bool) → all (suc n) f ≡ (f 0 && all n (λ i. f (suc i)))
unfolding all
all_first zero f = refl
all_first (suc n) f = ap (λ (b : Bool). f (suc n) && b) (all_first n f) ∙ swap_and (f (suc n)) (f 0) (all n (λ i. f (suc i)))

pub any_first : (n : ℕ) (f : ℕ → Bool) → any (suc n) f ≡ (f 0 || any n (λ i. f (suc i)))
unfolding any
any_first zero f = refl
any_first (suc n) f = ap (λ (b : Bool). f (suc n) || b) (any_first n f) ∙ swap_or (f (suc n)) (f 0) (any n (λ i. f (suc i)))

module _ (h : ℕ → Bool) where
  all_along : (n a : ℕ) (f : ℕ → Bool) → ((i : ℕ) → f i ≡ h (a + i)) → list_all h (range_with_len a n) ≡ all n f
  unfolding all
  all_along zero a f e = refl
  all_along (suc n) a f e =
      ap (λ (b : Bool). h a && b) (all_along n (a + 1) (λ i. f (suc i)) (λ i. let m : a + suc i ≡ a + 1 + i = omega arith in e (suc i) ∙ ap h m))
      ∙ let z : a + 0 ≡ a = omega arith in ap (λ (b : Bool). b && all n (λ i. f (suc i))) (sym (e 0 ∙ ap h z)) ∙ sym (all_first n f)

  any_along : (n a : ℕ) (f : ℕ → Bool) → ((i : ℕ) → f i ≡ h (a + i)) → list_any h (range_with_len a n) ≡ any n f
  unfolding any
  any_along zero a f e = refl
  any_along (suc n) a f e =
      ap (λ (b : Bool). h a || b) (any_along n (a + 1) (λ i. f (suc i)) (λ i. let m : a + suc i ≡ a + 1 + i = omega arith in e (suc i) ∙ ap h m))
      ∙ let z : a + 0 ≡ a = omega arith in ap (λ (b : Bool). b || any n (λ i. f (suc i))) (sym (e 0 ∙ ap h z)) ∙ sym (any_first n f)

  -- what `filter` of a range leaves, counted
  kept : (b : Bool) (a : ℕ) (xs : List ℕ) → length (cond b (a ∷ xs) xs) ≡ cond b 1 0 + length xs
  kept true a xs = omega arith
  kept false a xs = omega arith

  count_along : (n a : ℕ) (f : ℕ → Bool) → ((i : ℕ) → f i ≡ h (a + i)) → length (filter h (range_with_len a n)) ≡ count f n
  unfolding count
  count_along zero a f e = refl
  count_along (suc n) a f e =
      kept (h a) a (filter h (range_with_len (a + 1) n))
      ∙ ap (λ (m : ℕ). cond (h a) 1 0 + m) (count_along n (a + 1) (λ i. f (suc i)) (λ i. let m : a + suc i ≡ a + 1 + i = omega arith in e (suc i) ∙ ap h m))
      ∙ let z : a + 0 ≡ a = omega arith in ap (λ (b : Bool). cond b 1 0 + count (λ i. f (suc i)) n) (sym (e 0 ∙ ap h z)) ∙ sym (count_first f n)

  pub length_kept : (n : ℕ) → length (filter h (range_with_len 0 n)) ≡ count h n
  length_kept n = count_along n 0 h (λ i. let z : i ≡ 0 + i = omega arith in ap h z)

  module _ {S F : Type 0} {steps : S → Option ℕ → S → Type 0} {g : Mut F (ℕ × Unit {0}) Bool} {s : S} {r : Bool} (n : ℕ) (u : S) (f : F) where
    pub all_from_range : (a : ℕ) → (xs : List ℕ) × (o : Option ℕ) × (j : F) × YieldsThen steps s xs o u × FoldsTo (λ p x q. Called g p (x, tt) true q) f xs j
        × MatchOption o (r ≡ true) (λ x. (r ≡ false) × ((k : F) × Called g j (x, tt) false k)) → YieldsList steps (λ x. x) s (range_with_len a n)
        → ((x : ℕ) (b : Bool) (q : F) → Called g f (x, tt) b q → (q ≡ f) × (b ≡ h x)) → r ≡ all n (λ i. h (a + i))
    all_from_range a d e k = all_from_yields_List h u f r d e k ∙ all_along n a (λ i. h (a + i)) (λ i. refl)

    pub any_from_range : (a : ℕ) → (xs : List ℕ) × (o : Option ℕ) × (j : F) × YieldsThen steps s xs o u × FoldsTo (λ p x q. Called g p (x, tt) false q) f xs j
        × MatchOption o (r ≡ false) (λ x. (r ≡ true) × ((k : F) × Called g j (x, tt) true k)) → YieldsList steps (λ x. x) s (range_with_len a n)
        → ((x : ℕ) (b : Bool) (q : F) → Called g f (x, tt) b q → (q ≡ f) × (b ≡ h x)) → r ≡ any n (λ i. h (a + i))
    any_from_range a d e k = any_from_yields_List h u f r d e k ∙ any_along n a (λ i. h (a + i)) (λ i. refl)

    -- from the first place on
    pub all_below : (xs : List ℕ) × (o : Option ℕ) × (j : F) × YieldsThen steps s xs o u × FoldsTo (λ p x q. Called g p (x, tt) true q) f xs j
        × MatchOption o (r ≡ true) (λ x. (r ≡ false) × ((k : F) × Called g j (x, tt) false k)) → YieldsList steps (λ x. x) s (range_with_len 0 n)
        → ((x : ℕ) (b : Bool) (q : F) → Called g f (x, tt) b q → (q ≡ f) × (b ≡ h x)) → r ≡ all n h
    all_below d e k = all_from_yields_List h u f r d e k ∙ all_along n 0 h (λ i. let z : i ≡ 0 + i = omega arith in ap h z)

    pub any_below : (xs : List ℕ) × (o : Option ℕ) × (j : F) × YieldsThen steps s xs o u × FoldsTo (λ p x q. Called g p (x, tt) false q) f xs j
        × MatchOption o (r ≡ false) (λ x. (r ≡ true) × ((k : F) × Called g j (x, tt) true k)) → YieldsList steps (λ x. x) s (range_with_len 0 n)
        → ((x : ℕ) (b : Bool) (q : F) → Called g f (x, tt) b q → (q ≡ f) × (b ≡ h x)) → r ≡ any n h
    any_below d e k = any_from_yields_List h u f r d e k ∙ any_along n 0 h (λ i. let z : i ≡ 0 + i = omega arith in ap h z)
