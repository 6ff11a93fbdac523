-- Cuts of words: each has from one to the most words of a data block, and one after the other they are the words.
use Rattle.std.specs.Prelude.{ℕ, ◌+◌, ◌-◌, ◌*◌, ◌/◌, ◌≤◌, ◌<◌, zero, suc, min, ◌≡◌, List, [], ◌∷◌, ◌++◌, length, take, drop}
use Rattle.std.proofs.Common.{ap, ◌∙◌, arith, length-take, length-drop, take-append-drop}
use Rattle.basics.specs.Lists.{joined, Each, none, also}
use Rattle.basics.specs.Laws.Lists.{none_left}
use Rattle.hunk.specs.Cuts.{data_words, pieces, cuts_of}

-- words that a data block can hold
pub record Piece (words : List ℕ) : Type 0 where
  pub some : 1 ≤ length words
  pub most : length words ≤ data_words

-- no words have no cuts; others are cut at the most words of a data block, and what is left is cut on
pub cuts_none : (words : List ℕ) → length words ≡ 0 → cuts_of words ≡ []
unfolding cuts_of pieces
cuts_none words e = let z : (length words + (data_words - 1)) / data_words ≡ 0 = omega arith in rw z

pub cuts_more : (words : List ℕ) → 1 ≤ length words → cuts_of words ≡ take data_words words ∷ cuts_of (drop data_words words)
unfolding cuts_of pieces
cuts_more words h =
    let d : length (drop data_words words) ≡ length words - data_words = length-drop data_words words in
    let e : (length words + (data_words - 1)) / data_words ≡ suc ((length (drop data_words words) + (data_words - 1)) / data_words) = omega arith in
    rw e

-- n pieces are just what some words need
record Exact (n : ℕ) (words : List ℕ) : Type 0 where
  pub room : length words ≤ data_words * n
  pub full : data_words * n < length words + data_words

exact_as : (words : List ℕ) → Exact ((length words + (data_words - 1)) / data_words) words
exact_as words = record { room = omega arith; full = omega arith }

pieces_each : (n : ℕ) (words : List ℕ) → Exact n words → Each Piece (pieces n words)
unfolding pieces
pieces_each zero words c = none
pieces_each (suc n) words c =
    let a : length (take data_words words) ≡ min data_words (length words) = length-take data_words words in
    let b : length (drop data_words words) ≡ length words - data_words = length-drop data_words words in
    let p : Piece (take data_words words) = record { some = omega arith; most = omega arith } in
    also p (pieces_each n (drop data_words words) (record { room = omega arith; full = omega arith }))

pieces_all : (n : ℕ) (words : List ℕ) → length words ≤ data_words * n → joined (λ (c : List ℕ). c) (pieces n words) ≡ words
unfolding pieces joined
pieces_all zero words h = none_left words (omega arith)
pieces_all (suc n) words h =
    ap (◌++◌ (take data_words words)) (pieces_all n (drop data_words words) (omega (arith, length-drop data_words words))) ∙ take-append-drop data_words words

pub cuts_each : (words : List ℕ) → Each Piece (cuts_of words)
unfolding cuts_of
cuts_each words = pieces_each ((length words + (data_words - 1)) / data_words) words (exact_as words)

pub cuts_all : (words : List ℕ) → joined (λ (c : List ℕ). c) (cuts_of words) ≡ words
unfolding cuts_of
cuts_all words = pieces_all ((length words + (data_words - 1)) / data_words) words (exact_as words).room
