-- What is found for n is the n-th text: so many stand before it.
use Rattle.std.specs.Prelude.{ℕ, zero, suc, ◌≡◌, refl, List, [], ◌∷◌, ◌++◌, map, length, Ok}
use Rattle.std.proofs.Common.{ap, arith}
use Rattle.metadata.specs.declared.Span.{Span}
use Rattle.metadata.specs.Records.{subs_of}
use Rattle.metadata.specs.Texts.{texts_of, seek_in}
use Rattle.metadata.specs.Laws.Texts.{with_tag, shown, texts_are}

-- x is the n-th of xs, from 1
pub record IsNth (n : ℕ) (x : List ℕ) (xs : List (List ℕ)) : Type 0 where
  pub before : List (List ℕ)
  pub behind : List (List ℕ)
  pub place : n ≡ suc (length before)
  pub all : xs ≡ before ++ (x ∷ behind)

pub seek_nth : (s : List ℕ) (n : ℕ) (y : Span) (xs : List Span) → seek_in n xs ≡ Ok y → IsNth n (shown s y) (map (shown s) xs)
unfolding seek_in
seek_nth s n y [] q = let z : ◌≡◌ {A = ℕ} 0 1 = cc in absurd (omega arith)
seek_nth s zero y (x ∷ xs) q = let z : ◌≡◌ {A = ℕ} 0 1 = cc in absurd (omega arith)
seek_nth s (suc zero) y (x ∷ xs) q =
    let i : x ≡ y = cc in
    record { before = []; behind = map (shown s) xs; place = refl; all = ap (λ (z : Span). shown s z ∷ map (shown s) xs) i }
seek_nth s (suc (suc n)) y (x ∷ xs) q =
    let r : IsNth (suc n) (shown s y) (map (shown s) xs) = seek_nth s (suc n) y xs q in
    record { before = shown s x ∷ r.before; behind = r.behind; place = ap suc r.place; all = ap (◌∷◌ (shown s x)) r.all }

-- of a payload: the n-th among what its sub-records with the tag hold
pub payload_nth : (tag n : ℕ) (x : Span) (s : List ℕ) → seek_in n (texts_of tag s) ≡ Ok x → IsNth n (shown s x) (with_tag tag (subs_of s))
payload_nth tag n x s q = rw (texts_are tag s) at (seek_nth s n x (texts_of tag s) q)
