-- No image of paragraphs, however many of Locutus are chosen, passes the limit (02, W-210). So the writer's 1 never comes back; its row
-- stands as 01 has it.
use Rattle.std.specs.Prelude.{ℕ, ◌*◌, ◌≤◌, List, [], ◌∷◌, ◌≡◌, Bool, false, length, ltb}
use Rattle.std.proofs.Common.{arith, le-ltb, length-append}
use Rattle.basics.specs.Lists.{joined, Each, none, also}
use Rattle.basics.specs.Laws.Counts.{count_most}
use Rattle.basics.specs.Laws.Tables.{length_table}
use Rattle.places.specs.Limits.{image_limit, locutus_paragraphs, paragraph_size}
use Rattle.tables.specs.Tables.{Tables}
use Rattle.hunk.specs.Hunk.{Hunk}
use Rattle.save.specs.Chosen.{chosen, hunk_block, image_for, Sized}
use Rattle.save.specs.Writing.{Content, paragraph_of, is_marked, image_by}
use Rattle.save.specs.Laws.Chosen.{chosen_each, length_chosen, hunk_block_most, length_sized}

abbrev Whole : Hunk → Type 0
Whole h = length h.words ≡ paragraph_size

-- a paragraph's hunk is a block of at most 779 bytes
blocks_most : (hs : List Hunk) → Each Whole hs → length (joined hunk_block hs) ≤ 779 * length hs
unfolding joined
blocks_most [] none = omega arith
blocks_most (h ∷ hs) (also w ws) = omega (arith, length-append (hunk_block h) (joined hunk_block hs), hunk_block_most h w, blocks_most hs ws)

module _ (flags uid : List ℕ) (t : Tables) (z : Sized flags uid t) (on : ℕ → Bool) (words : ℕ → List ℕ) (whole : (p : ℕ) → length (words p) ≡ paragraph_size) where
  abbrev hunks : List Hunk
  hunks = chosen locutus_paragraphs on words

  -- and has room left for other blocks
  pub image_most : length (image_for flags uid t hunks) ≤ 1600000
  image_most =
      omega (
        arith,
        length_sized flags uid t z hunks,
        blocks_most hunks (chosen_each on words locutus_paragraphs (λ p l e. whole p)),
        length_chosen on words locutus_paragraphs,
        count_most on locutus_paragraphs,
      )

  pub within_limit : length (image_for flags uid t hunks) ≤ image_limit
  within_limit = omega (arith, image_most)

-- the row of 1 does not hold
pub never_long : (c : Content) → Sized c.flags c.uid c.tables → ltb image_limit (length (image_by c)) ≡ false
never_long c z =
    le-ltb image_limit (length (image_by c))
    (within_limit c.flags c.uid c.tables z (is_marked c.marks) (paragraph_of c.ram) (λ p. length_table paragraph_size _))
