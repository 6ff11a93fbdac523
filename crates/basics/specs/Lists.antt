-- Parts of a list, words stored one after the other, what is made of each element, and a fact of each.
use Rattle.std.specs.Prelude.{ℕ, ◌-◌, zero, suc, ◌+◌, List, [], ◌∷◌, ◌++◌, cond, take, drop, set, length, get_or, ltb}

-- the elements from place a up to place e: what the code's `&s[a..e]` lends
abbrev pub part : {A : Type 0} → List A → ℕ → ℕ → List A
part s a e = take (e - a) (drop a s)

-- words w 0 to w (n - 1), stored at place a and on
unfoldable pub laid : ℕ → ℕ → (ℕ → ℕ) → List ℕ → List ℕ
laid a zero w m = m
laid a (suc n) w m = set (laid a n w m) (a + n) (w n)

-- a list of words, stored at place a and on
abbrev pub lay : ℕ → List ℕ → List ℕ → List ℕ
lay a ws ram = laid a (length ws) (λ i. get_or ws i 0) ram

-- what f makes of each, one after the other; and lists, one behind the other
unfoldable pub joined : {A : Type 0} → (A → List ℕ) → List A → List ℕ
joined f [] = []
joined f (x ∷ xs) = f x ++ joined f xs

abbrev pub flat : List (List ℕ) → List ℕ
flat xs = joined (λ x. x) xs

-- P holds of each
pub data Each {A : Type 0} (P : A → Type 0) : List A → Type 0 where
  none : Each P []
  also : {x : A} {xs : List A} → P x → Each P xs → Each P (x ∷ xs)

-- a buffer with x at its front and all else kept; as it was where it has no room for x (01, How an image is laid out by the builder)
unfoldable pub put_front : List ℕ → List ℕ → List ℕ
put_front x out = cond (ltb (length out) (length x)) out (x ++ drop (length x) out)
