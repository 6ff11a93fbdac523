-- What demand 2 says of a load (01, File layout, The machine): which words it stores, and that it leaves all others.
use Rattle.std.specs.Prelude.{ℕ, ◌+◌, ◌-◌, ◌<◌, ◌≤◌, ◌≡◌, List, [], ◌∷◌, ◌++◌, Bool, true, false, ◌&&◌, ◌||◌, length, get_or, leb, ltb}
use Rattle.basics.specs.Lists.{Each}
use Rattle.places.specs.Limits.{lent}
use Rattle.hunk.specs.Hunk.{Hunk, end_of}
use Rattle.blocks.specs.Blocks.{is_hunk, payload_in}
use Rattle.blocks.specs.Images.{blocks_in, hunks_in, word_count}
use Rattle.load.specs.Load.{Loading}

-- a hunk names word i; one of some hunks does
abbrev pub names : Hunk → ℕ → Bool
names h i = leb h.address.0 i && ltb i (h.address.0 + length h.words)

abbrev pub named : List Hunk → ℕ → Bool
named [] i = false
named (h ∷ hs) i = names h i || named hs i

-- the payload of a hunk's block is data blocks to its end, so that its words are all its words
pub record Filled (x : List ℕ) : Type 0 where
  pub all : is_hunk x ≡ true → end_of (payload_in x) ≡ length (payload_in x)

-- what a load that is not refused answers of its words, and leaves in a RAM
pub record Leaves (s ram : List ℕ) (l : Loading) (after : List ℕ) : Type 0 where
  pub long : length after ≡ length ram
  -- a named word holds the value of the last hunk that names it, and lies in the words lent
  pub last : (xs ys : List Hunk) (h : Hunk) (i : ℕ) → hunks_in (blocks_in s) ≡ xs ++ (h ∷ ys) → names h i ≡ true → named ys i ≡ false
      → (i < lent ram) × (get_or after i 0 ≡ get_or h.words (i - h.address.0) 0)
  -- a word that no hunk names is kept, and so is every word past the ones lent
  pub kept : (i : ℕ) → named (hunks_in (blocks_in s)) i ≡ false → get_or after i 0 ≡ get_or ram i 0
  pub past : (i : ℕ) → lent ram ≤ i → get_or after i 0 ≡ get_or ram i 0
  -- the words of every hunk are all its words, and the answer counts them and the blocks
  pub filled : Each Filled (blocks_in s)
  pub words : l.words ≡ word_count (hunks_in (blocks_in s))
  pub blocks : l.blocks ≡ length (blocks_in s)
