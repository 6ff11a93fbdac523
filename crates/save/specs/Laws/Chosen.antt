-- The chosen paragraphs: one more of them, how many they are, and what holds of each; the bytes of their blocks; and the length of
-- an image as the sum of its header, its blocks and its end.
use Rattle.std.specs.Prelude.{ℕ, zero, suc, ◌+◌, ◌*◌, ◌≤◌, ◌<◌, ◌≡◌, Bool, true, false, length}
use mathlib.Core.List.{List, [], ◌∷◌, ◌++◌, append_assoc}
use Rattle.std.proofs.Common.{ap, ◌∙◌, ⊎_elim, arith, eq-or-lt_of_le, length-append}
use Rattle.basics.specs.Lists.{joined, flat, Each}
use Rattle.basics.specs.Counts.{count}
use Rattle.basics.specs.Laws.Each.{joined_append, joined_more, flat_map}
use Rattle.basics.specs.Laws.Listed.{listed_on, listed_off, length_listed, each_listed, listed_same}
use Rattle.basics.specs.Listed.{listed}
use Rattle.places.specs.Limits.{paragraph_size}
use Rattle.header.specs.Header.{header_size, header_of}
use Rattle.header.specs.Laws.Header.{length_header}
use Rattle.tables.specs.Tables.{Tables, tables_size, tables_payload}
use Rattle.tables.specs.Laws.Tables.{length_tables}
use Rattle.hunk.specs.Hunk.{Hunk, hunk_payload, payload_size}
use Rattle.hunk.specs.Laws.Sizes.{length_payload, size_most}
use Rattle.blocks.specs.Blocks.{frame_size, tables_type, hunk_type, end_mark}
use Rattle.blocks.specs.Images.{image_of}
use Rattle.blocks.specs.Laws.ReadBack.{length_block}
use Rattle.save.specs.Chosen.{paragraph_hunk, chosen, tables_block, hunk_block, image_with, image_for, Sized}

module _ (on : ℕ → Bool) (words : ℕ → List ℕ) where
  -- one paragraph more
  pub chosen_on : (p : ℕ) → on p ≡ true → chosen (p + 1) on words ≡ chosen p on words ++ (paragraph_hunk p (words p) ∷ [])
  chosen_on p e = listed_on on (λ q. paragraph_hunk q (words q)) p e

  pub chosen_off : (p : ℕ) → on p ≡ false → chosen (p + 1) on words ≡ chosen p on words
  chosen_off p e = listed_off on (λ q. paragraph_hunk q (words q)) p e

  -- as many as the test passes
  pub length_chosen : (n : ℕ) → length (chosen n on words) ≡ count on n
  length_chosen n = length_listed n on (λ p. paragraph_hunk p (words p))

  -- what holds of each paragraph that is chosen
  pub chosen_each : {P : Hunk → Type 0} (n : ℕ) → ((p : ℕ) → p < n → on p ≡ true → P (paragraph_hunk p (words p))) → Each P (chosen n on words)
  chosen_each n h = each_listed n on (λ p. paragraph_hunk p (words p)) h

  -- the bytes of their blocks: one more, none more, and fewer for fewer paragraphs
  pub bytes_on : (p : ℕ) → on p ≡ true → joined hunk_block (chosen (p + 1) on words) ≡ joined hunk_block (chosen p on words) ++ hunk_block (paragraph_hunk p (words p))
  bytes_on p e = ap (joined hunk_block) (chosen_on p e) ∙ joined_more hunk_block (chosen p on words) (paragraph_hunk p (words p))

  pub bytes_off : (p : ℕ) → on p ≡ false → joined hunk_block (chosen (p + 1) on words) ≡ joined hunk_block (chosen p on words)
  bytes_off p e = ap (joined hunk_block) (chosen_off p e)

  bytes_next : (n : ℕ) → length (joined hunk_block (chosen n on words)) ≤ length (joined hunk_block (chosen (suc n) on words))
  unfolding listed
  bytes_next n = rw (joined_append, length-append) (omega arith)

  pub bytes_up : (p n : ℕ) → p ≤ n → length (joined hunk_block (chosen p on words)) ≤ length (joined hunk_block (chosen n on words))
  bytes_up p zero h = let e : p ≡ 0 = omega arith in rw e (omega arith)
  bytes_up p (suc n) h = ⊎_elim (λ e. rw e (omega arith)) (λ l. omega (arith, bytes_next n, bytes_up p n (omega arith))) (eq-or-lt_of_le h)

-- paragraphs chosen by tests that agree, with words that agree where they are chosen
pub chosen_same : (n : ℕ) (on on' : ℕ → Bool) (w w' : ℕ → List ℕ) → ((p : ℕ) → p < n → on p ≡ on' p) → ((p : ℕ) → p < n → on' p ≡ true → w p ≡ w' p) → chosen n on w ≡ chosen n on' w'
chosen_same n on on' w w' h k =
    listed_same n on on' (λ p. paragraph_hunk p (w p)) (λ p. paragraph_hunk p (w' p)) h (λ p l e. ap (paragraph_hunk p) (k p l e))

-- a hunk has a paragraph's words, and they lie in n words of RAM
pub record Lies (n : ℕ) (h : Hunk) : Type 0 where
  pub whole : length h.words ≡ paragraph_size
  pub within : h.address.0 + paragraph_size ≤ n

-- how long a hunk's block is, and what it is at most for a paragraph's words
pub length_hunk_block : (h : Hunk) → length (hunk_block h) ≡ frame_size + payload_size h.words
length_hunk_block h = length_block hunk_type (hunk_payload h) ∙ ap (◌+◌ frame_size) (length_payload h)

pub hunk_block_most : (h : Hunk) → length h.words ≡ paragraph_size → length (hunk_block h) ≤ frame_size + (3 + 3 * paragraph_size)
hunk_block_most h e = omega (arith, length_hunk_block h, size_most h.words)

-- an image is its header, its blocks and the byte that ends it, and as long as they are
module _ (flags uid : List ℕ) (t : Tables) where
  pub with_parts : (others : List (List ℕ)) (hunks : List Hunk)
      → image_with flags uid t others hunks ≡ (header_of flags uid ++ tables_block t) ++ (flat others ++ (joined hunk_block hunks ++ (end_mark ∷ [])))
  unfolding image_with image_of joined
  with_parts others hunks = rw (joined_append, flat_map) (simp append_assoc)

  pub length_with : (others : List (List ℕ)) (hunks : List Hunk)
      → length (image_with flags uid t others hunks) ≡ length (header_of flags uid) + length (tables_block t) + (length (flat others) + length (joined hunk_block hunks)) + 1
  length_with others hunks = ap length (with_parts others hunks) ∙ simp length-append (omega arith)

  pub image_parts : (hunks : List Hunk) → image_for flags uid t hunks ≡ (header_of flags uid ++ tables_block t) ++ (joined hunk_block hunks ++ (end_mark ∷ []))
  unfolding image_for joined
  image_parts hunks = with_parts [] hunks

  pub length_image : (hunks : List Hunk) → length (image_for flags uid t hunks) ≡ length (header_of flags uid) + length (tables_block t) + length (joined hunk_block hunks) + 1
  length_image hunks = ap length (image_parts hunks) ∙ simp length-append (omega arith)

  module _ (z : Sized flags uid t) where
    pub length_tables_block : length (tables_block t) ≡ frame_size + tables_size
    length_tables_block =
        length_block tables_type (tables_payload t) ∙ ap (◌+◌ frame_size) (length_tables t z.mapping_long z.permissions_long z.flips_long)

    pub length_sized : (hunks : List Hunk) → length (image_for flags uid t hunks) ≡ header_size + (frame_size + tables_size) + length (joined hunk_block hunks) + 1
    length_sized hunks = omega (arith, length_image hunks, length_header flags uid z.flags_long z.uid_long, length_tables_block)
