-- The texts of an image's blocks: one block behind the others, and the n-th of them.
use Rattle.std.specs.Prelude.{ℕ, zero, suc, ◌+◌, ◌≡◌, refl, List, [], ◌∷◌, ◌++◌, map, cond, Result, Ok, Err}
use Rattle.std.proofs.Common.{sym, ◌∙◌, append_assoc, arith, length-append}
use Rattle.std.proofs.Math.Path.{ap}
use Rattle.std.proofs.Math.ListN.{length}
use Rattle.basics.specs.Lists.{joined, flat}
use Rattle.metadata.specs.declared.Span.{Span}
use Rattle.metadata.specs.Texts.{texts_of, seek_in}
use Rattle.metadata.specs.Laws.Texts.{on_sought, seek_append}
use Rattle.blocks.specs.Blocks.{frame_size, payload_in, is_metadata}
use Rattle.lookup.specs.Lookup.{moved, texts_in_blocks}

pub texts_append : (tag p : ℕ) (xs ys : List (List ℕ)) → texts_in_blocks tag p (xs ++ ys) ≡ texts_in_blocks tag p xs ++ texts_in_blocks tag (p + length (flat xs)) ys
unfolding texts_in_blocks joined
texts_append tag p [] ys = let k : p + 0 ≡ p = omega arith in rw k
texts_append tag p (x ∷ xs) ys =
    let k : p + length (x ++ flat xs) ≡ p + length x + length (flat xs) = omega (arith, length-append x (flat xs)) in
    let here : List Span = map (moved (p + frame_size)) (cond (is_metadata x) (texts_of tag (payload_in x)) []) in
    ap (◌++◌ here) (texts_append tag (p + length x) xs ys)
    ∙ sym (append_assoc here (texts_in_blocks tag (p + length x) xs) (texts_in_blocks tag (p + length x + length (flat xs)) ys)) ∙ rw k

-- the n-th of texts that stand b places on
abbrev pub moved_sought : ℕ → Result Span ℕ → Result Span ℕ
moved_sought b (Err k) = Err k
moved_sought b (Ok x) = Ok (moved b x)

pub seek_moved : (b n : ℕ) (xs : List Span) → seek_in n (map (moved b) xs) ≡ moved_sought b (seek_in n xs)
unfolding seek_in
seek_moved b n [] = refl
seek_moved b zero (x ∷ xs) = refl
seek_moved b (suc zero) (x ∷ xs) = refl
seek_moved b (suc (suc n)) (x ∷ xs) = seek_moved b (suc n) xs

-- so many are still to be passed behind some blocks, and the next one is x: what is asked of it, and of the blocks behind it
module _ (tag n p left : ℕ) (before : List (List ℕ)) (passed : seek_in n (texts_in_blocks tag p before) ≡ Err left) (x : List ℕ) (rest : List (List ℕ)) where
  abbrev here : List Span
  here = cond (is_metadata x) (texts_of tag (payload_in x)) []

  abbrev at : ℕ
  at = p + length (flat before)

  behind : seek_in n (texts_in_blocks tag p (before ++ (x ∷ rest))) ≡ on_sought (moved_sought (at + frame_size) (seek_in left here)) (λ k. seek_in k (texts_in_blocks tag (at + length x) rest)) Ok
  unfolding texts_in_blocks
  behind =
      ap (seek_in n) (texts_append tag p before (x ∷ rest)) ∙ seek_append n (texts_in_blocks tag p before) _ ∙ rw passed
      (seek_append left (map (moved (at + frame_size)) here) (texts_in_blocks tag (at + length x) rest)
      ∙ rw (seek_moved (at + frame_size) left here))

  pub found_here : (y : Span) → seek_in left here ≡ Ok y → seek_in n (texts_in_blocks tag p (before ++ (x ∷ rest))) ≡ Ok (moved (at + frame_size) y)
  found_here y q = behind ∙ rw q

  pub passed_here : (k : ℕ) → seek_in left here ≡ Err k → seek_in n (texts_in_blocks tag p (before ++ (x ∷ rest))) ≡ seek_in k (texts_in_blocks tag (at + length x) rest)
  passed_here k q = behind ∙ rw q
