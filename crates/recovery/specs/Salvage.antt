-- Salvage of a damaged image: which blocks are kept and which are left out, what is refused, what is written and what is answered (02, W-208).
-- Each refusal is loading's own, for a RAM of 524,288 words.
use Rattle.std.specs.Prelude.{ℕ, ◌+◌, List, [], ◌∷◌, ◌++◌, Bool, false, cond, not, ◌&&◌, ◌||◌, length, take, eqb, ltb, Option, Some, None, Result, Ok, Err}
use Rattle.basics.specs.declared.Refusal.{Refusal}
use Rattle.basics.specs.declared.Declined.{Declined}
use Rattle.basics.specs.Lists.{flat, put_front}
use Rattle.basics.specs.Rows.{Row}
use Rattle.basics.specs.Refusals.{refuse, no_refusal, first_refusal, passes, outcome_at}
use Rattle.places.specs.Limits.{lent_limit, image_limit}
use Rattle.sums.specs.Crc.{crc324_of}
use Rattle.header.specs.Header.{header_size, header_rows, flags_of}
use Rattle.tables.specs.Tables.{tables_in, flash_words, tables_rows}
use Rattle.blocks.specs.Blocks.{payload_in, end_mark, is_tables, is_hunk}
use Rattle.blocks.specs.Judged.{judge_rows, judged_of}
use Rattle.blocks.specs.Images.{image_of, first_block, blocks_in, stop_of, is_cut, any_tables, payload_of_tables}
use Rattle.recovery.specs.declared.Salvaged.{Salvaged}

-- the number that a load refuses a block with, 0 where it does not. What stands before a hunk is not asked, so it is judged as a first block
abbrev pub number_for : List ℕ → ℕ
number_for x = (judged_of lent_limit false 0 (crc324_of (payload_in x)) x).refusal.number

-- left out: a type 2 block that would give 6 or 9
unfoldable pub left_out : List ℕ → Bool
left_out x = is_hunk x && (eqb (number_for x) 6 || eqb (number_for x) 9)

-- every other block is kept, in order; and the places of those left out, the first block being at p
unfoldable pub kept : List (List ℕ) → List (List ℕ)
kept [] = []
kept (x ∷ xs) = cond (left_out x) (kept xs) (x ∷ kept xs)

unfoldable pub drops_from : ℕ → List (List ℕ) → List ℕ
drops_from p [] = []
drops_from p (x ∷ xs) = cond (left_out x) (p ∷ drops_from (p + length x) xs) (drops_from (p + length x) xs)

-- of an image: of its blocks before the first that would give 5
abbrev pub kept_in : List ℕ → List (List ℕ)
kept_in s = kept (blocks_in s)

abbrev pub drops_in : List ℕ → List ℕ
drops_in s = drops_from first_block (blocks_in s)

-- where it stops: at a block that would give 5, or nowhere
pub data Stopped : Type 0 where
  Nowhere : Stopped
  At : ℕ → Stopped

abbrev pub stopped_of : List ℕ → Stopped
stopped_of s = cond (is_cut s) (At (stop_of s)) Nowhere

-- so many bytes are closed with 0xFF, unless that byte would pass the image limit
abbrev pub closing : ℕ → List ℕ
closing n = cond (ltb n image_limit) (end_mark ∷ []) []

unfoldable pub closed : List ℕ → List (List ℕ) → List ℕ
closed header blocks = image_of header blocks (closing (first_block + length (flat blocks)))

-- what is written: the header and the kept blocks, byte for byte, closed
unfoldable pub salvage_of : List ℕ → List ℕ
salvage_of s = closed (take header_size s) (kept_in s)

-- what is refused of blocks, the first at p: all that a load refuses of those that are kept
abbrev pub block_rows : Bool → ℕ → List ℕ → List (Row Refusal)
block_rows earlier p x = cond (left_out x) [] (judge_rows lent_limit earlier p (crc324_of (payload_in x)) x)

unfoldable pub kept_rows : Bool → ℕ → List (List ℕ) → List (Row Refusal)
kept_rows earlier p [] = []
kept_rows earlier p (x ∷ xs) = block_rows earlier p x ++ kept_rows (earlier || is_tables x) (p + length x) xs

-- behind the blocks: "none" of 8, place the file's length; then what a load refuses of the flags and the tables, with a flash of the size
-- that the flags say: 13 by its size alone (02, W-209)
abbrev pub end_rows : ℕ → ℕ → List ℕ → List (List ℕ) → List (Row Refusal)
end_rows m f flags xs = tables_rows flags (tables_in (payload_of_tables xs)).flips m f

unfoldable pub blocks_rows : List ℕ → List (Row Refusal)
blocks_rows s =
    kept_rows false first_block (blocks_in s)
    ++ ((not (any_tables (blocks_in s)), refuse 8 (length s)) ∷ end_rows lent_limit (flash_words (flags_of s)) (flags_of s) (blocks_in s))

-- every refusal of an image: 1 to 4, then those of the blocks before the stop; and, last, 29 for the output buffer
abbrev pub image_rows : List ℕ → List (Row Refusal)
image_rows s = header_rows s ++ blocks_rows s

abbrev pub refusal_rows : List ℕ → List ℕ → List (Row Refusal)
refusal_rows out s = image_rows s ++ ((ltb (length out) (length (salvage_of s)), refuse 29 0) ∷ [])

unfoldable pub image_refusal : List ℕ → Refusal
image_refusal s = first_refusal (image_rows s)

unfoldable pub refusal_of : List ℕ → List ℕ → Refusal
refusal_of out s = first_refusal (refusal_rows out s)

-- what a salvage comes to: its refusal, the length of what is written, the blocks kept and left out, and where it stopped
pub record Salvaging : Type 0 where
  pub refusal : Refusal
  pub length : ℕ
  pub kept : ℕ
  pub dropped : ℕ
  pub stopped : Stopped

-- what the code answers of it: the refusal and the length, or what was salvaged
abbrev pub stop_answer : Stopped → Option ℕ
stop_answer Nowhere = None
stop_answer (At p) = Some p

abbrev pub salvaged_as : Salvaging → Salvaged
salvaged_as l = record { length = l.length; kept = l.kept; dropped = l.dropped; stopped = stop_answer l.stopped }

abbrev pub salvage_answer : Salvaging → Result Salvaged Declined
salvage_answer l = outcome_at l.refusal l.length (salvaged_as l)

-- the answer of a refused salvage: number and place, zero in all else but the length at 29
abbrev pub refused : Refusal → ℕ → Salvaging
refused r long = record { refusal = r; length = long; kept = 0; dropped = 0; stopped = Nowhere }

-- and of one that is not
abbrev pub salvaged : List ℕ → Salvaging
salvaged s =
    record {
      refusal = no_refusal;
      length = length (salvage_of s);
      kept = length (kept_in s);
      dropped = length (drops_in s);
      stopped = stopped_of s;
    }

-- the answer for so much room, where nothing of the image is refused: 29 says the length that is needed
unfoldable pub fitted : ℕ → List ℕ → Salvaging
fitted room s = cond (ltb room (length (salvage_of s))) (refused (refuse 29 0) (length (salvage_of s))) (salvaged s)

unfoldable pub salvaging_of : List ℕ → List ℕ → Salvaging
salvaging_of out s = cond (passes (image_refusal s)) (fitted (length out) s) (refused (image_refusal s) 0)

-- the output buffer: the image at its front, and as it was where the salvage is refused
unfoldable pub written_of : List ℕ → List ℕ → List ℕ
written_of out s = cond (passes (refusal_of out s)) (put_front (salvage_of s) out) out

-- a lent array with the places of the blocks left out at its front, as many as it has room for, and all else kept
unfoldable pub listed_in : List ℕ → List ℕ → List ℕ
listed_in s array = put_front (take (length array) (drops_in s)) array

-- what the code's answer says that a salvage comes to
abbrev pub stopped_from : Option ℕ → Stopped
stopped_from None = Nowhere
stopped_from (Some p) = At p

abbrev pub salvaging_from : Result Salvaged Declined → Salvaging
salvaging_from (Ok s) =
    record { refusal = no_refusal; length = s.length; kept = s.kept; dropped = s.dropped; stopped = stopped_from s.stopped }
salvaging_from (Err d) = refused d.refusal d.length
