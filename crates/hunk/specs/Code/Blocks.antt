-- What stands at a place of a payload, as the loops over its data blocks ask; and what has room in a RAM.
use Rattle.std.specs.Prelude.{ℕ, ◌+◌, ◌≤◌, List, ◌≡◌, cond, true, leb, length, Option, Some, None, Result, Ok, Err}
use Rattle.basics.specs.Laws.Lay.{Inside}
use Rattle.hunk.specs.declared.DataBlock.{DataBlock}
use Rattle.hunk.specs.Hunk.{address, count_at, size_at, whole_at, words_of}

-- a data block of so many words, with the place of the next; none at the payload's end, and the place of one that is cut or reserved
abbrev pub Found : Type 0
Found = Result (Option DataBlock) ℕ

abbrev pub data_at : List ℕ → ℕ → DataBlock
data_at s p = record { words = count_at s p; next = p + size_at s p }

unfoldable pub block_at : List ℕ → ℕ → Found
block_at s p = cond (leb (length s) p) (Ok None) (cond (whole_at s p) (Ok (Some (data_at s p))) (Err p))

-- the data block at p is whole and has n words, and they have room at word a of m
pub record Room (s : List ℕ) (p n m a : ℕ) : Type 0 where
  pub whole : whole_at s p ≡ true
  pub words : n ≡ count_at s p
  pub room : a + n ≤ m

-- a payload has an address, and its words lie in m words of RAM
pub record Storable (s : List ℕ) (m : ℕ) : Type 0 where
  pub long : 3 ≤ length s
  pub inside : Inside (address s).0 (words_of s) m
