-- What is made of each of some elements, and what holds of each, for two lists one behind the other.
use Rattle.std.specs.Prelude.{ℕ, List, ◌++◌, [], ◌∷◌, map, ◌≡◌, refl}
use Rattle.std.proofs.Common.{append_assoc, append-nil, ap, ◌∙◌, sym}
use Rattle.basics.specs.Lists.{flat, joined, Each, none, also}

pub joined_append : {A : Type 0} (f : A → List ℕ) (xs ys : List A) → joined f (xs ++ ys) ≡ joined f xs ++ joined f ys
unfolding joined
joined_append f [] ys = refl
joined_append f (x ∷ xs) ys = ap (◌++◌ (f x)) (joined_append f xs ys) ∙ sym (append_assoc (f x) (joined f xs) (joined f ys))

-- one more
pub joined_more : {A : Type 0} (f : A → List ℕ) (xs : List A) (x : A) → joined f (xs ++ (x ∷ [])) ≡ joined f xs ++ f x
unfolding joined
joined_more f xs x = joined_append f xs (x ∷ []) ∙ ap (◌++◌ (joined f xs)) (append-nil (f x))

pub flat_map : {A : Type 0} (f : A → List ℕ) (xs : List A) → flat (map f xs) ≡ joined f xs
unfolding joined
flat_map f [] = refl
flat_map f (x ∷ xs) = ap (◌++◌ (f x)) (flat_map f xs)

pub each_append : {A : Type 0} {P : A → Type 0} (xs ys : List A) → Each P xs → Each P ys → Each P (xs ++ ys)
each_append [] ys none v = v
each_append (x ∷ xs) ys (also p u) v = also p (each_append xs ys u v)
