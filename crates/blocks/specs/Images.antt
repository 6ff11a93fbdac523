-- An image is a header, blocks and an end; the blocks of any bytes; and what blocks, one behind the other, come to (01, File layout, Load order).
use Rattle.std.specs.Prelude.{ℕ, zero, suc, ◌+◌, List, [], ◌∷◌, ◌++◌, Bool, false, cond, not, ◌||◌, length}
use Rattle.basics.specs.declared.Refusal.{Refusal}
use Rattle.basics.specs.Lists.{part, lay, flat}
use Rattle.basics.specs.Rows.{Row}
use Rattle.sums.specs.Crc.{crc324_of}
use Rattle.hunk.specs.Hunk.{Hunk, hunk_of}
use Rattle.blocks.specs.Blocks.{payload_in, is_tables, is_hunk}
use Rattle.blocks.specs.Frames.{ends_at, frame_at, on_frame}
use Rattle.blocks.specs.Judged.{judge_rows}

unfoldable pub image_of : List ℕ → List (List ℕ) → List ℕ → List ℕ
image_of header blocks end = header ++ (flat blocks ++ end)

-- the blocks from p on, before the end or the first that is cut
unfoldable pub blocks_from : ℕ → List ℕ → ℕ → List (List ℕ)
blocks_from zero s p = []
blocks_from (suc f) s p = on_frame (frame_at s p) [] [] (λ t q. part s p q ∷ blocks_from f s q)

-- the first block stands behind the 32 bytes of the header
abbrev pub first_block : ℕ
first_block = 32

unfoldable pub blocks_in : List ℕ → List (List ℕ)
blocks_in s = blocks_from (length s) s first_block

-- where they stop: at the image's end, or at a block that is cut
abbrev pub stop_of : List ℕ → ℕ
stop_of s = first_block + length (flat (blocks_in s))

abbrev pub is_cut : List ℕ → Bool
is_cut s = not (ends_at s (stop_of s))

-- the refusals of blocks, the first at p; `earlier` says that a tables block stands before them
unfoldable pub judge_all : ℕ → Bool → ℕ → List (List ℕ) → List (Row Refusal)
judge_all m earlier p [] = []
judge_all m earlier p (x ∷ xs) = judge_rows m earlier p (crc324_of (payload_in x)) x ++ judge_all m (earlier || is_tables x) (p + length x) xs

unfoldable pub any_tables : List (List ℕ) → Bool
any_tables [] = false
any_tables (x ∷ xs) = is_tables x || any_tables xs

-- the payload of the first tables block
unfoldable pub payload_of_tables : List (List ℕ) → List ℕ
payload_of_tables [] = []
payload_of_tables (x ∷ xs) = cond (is_tables x) (payload_in x) (payload_of_tables xs)

-- the hunks, in file order
unfoldable pub hunks_in : List (List ℕ) → List Hunk
hunks_in [] = []
hunks_in (x ∷ xs) = cond (is_hunk x) (hunk_of (payload_in x) ∷ hunks_in xs) (hunks_in xs)

-- hunks stored one after the other: a word named twice holds the later value
unfoldable pub overlay : List Hunk → List ℕ → List ℕ
overlay [] ram = ram
overlay (h ∷ hs) ram = overlay hs (lay h.address.0 h.words ram)

-- the words of hunks, repeats counted
unfoldable pub word_count : List Hunk → ℕ
word_count [] = 0
word_count (h ∷ hs) = length h.words + word_count hs
