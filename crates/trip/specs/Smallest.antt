-- An image like another, but for the forms of its hunks' data blocks (02, W-207: the same header, other blocks, hunks and cuts, ending in
-- 0xFF, and loading the same words).
use Rattle.std.specs.Prelude.{◌≡◌, List, [], ◌∷◌, true, ℕ, get_or}
use Rattle.basics.specs.Laws.Octets.{Bytes}
use Rattle.places.specs.Limits.{lent}
use Rattle.hunk.specs.Hunk.{address, counts_in}
use Rattle.blocks.specs.Blocks.{payload_in, is_hunk, end_mark}
use Rattle.blocks.specs.Images.{blocks_in, stop_of}
use Rattle.load.specs.Load.{loading_of, load_ram_of}

-- two hunks with the same address and the same cuts: their data blocks, one after the other, have as many words
pub record Recoded (x y : List ℕ) : Type 0 where
  pub hunk : is_hunk x ≡ true
  pub other_hunk : is_hunk y ≡ true
  pub address : address (payload_in x) ≡ address (payload_in y)
  pub cuts : counts_in (payload_in x) ≡ counts_in (payload_in y)

-- blocks in the same order, each the same or such a hunk
pub data SameBlocks : List (List ℕ) → List (List ℕ) → Type 0 where
  none : SameBlocks [] []
  same : {x : List ℕ} {xs ys : List (List ℕ)} → SameBlocks xs ys → SameBlocks (x ∷ xs) (x ∷ ys)
  coded : {x y : List ℕ} {xs ys : List (List ℕ)} → Recoded x y → SameBlocks xs ys → SameBlocks (x ∷ xs) (y ∷ ys)

-- bytes that load into a RAM with f words of flash, have 0xFF where their blocks stop, and leave the same words there (what they have for a
-- header is not asked)
pub record Alike (image other ram : List ℕ) (f : ℕ) : Type 0 where
  pub bytes : Bytes other
  pub loads : (loading_of other (lent ram) f).refusal.number ≡ 0
  pub ended : get_or other (stop_of other) 0 ≡ end_mark
  pub blocks : SameBlocks (blocks_in image) (blocks_in other)
  pub words : load_ram_of other ram f ≡ load_ram_of image ram f
