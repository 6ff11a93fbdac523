-- What the checking pass and the storing pass answer, over the blocks that are read.
use Rattle.std.specs.Prelude.{ℕ, ◌+◌, ◌≤◌, List, [], ◌∷◌, ◌++◌, Bool, cond, length, eqb, Option, Some, None, Result, Ok, Err}
use Rattle.std.specs.Option.{is_some}
use Rattle.basics.specs.declared.Refusal.{Refusal}
use Rattle.basics.specs.Lists.{part}
use Rattle.basics.specs.Refusals.{refuse, first_refusal, passes, outcome}
use Rattle.places.specs.Limits.{lent}
use Rattle.sums.specs.Crc.{crc324_of}
use Rattle.header.specs.Header.{header_rows, flags_of}
use Rattle.header.specs.Flags.{compat_of}
use Rattle.hunk.specs.Hunk.{store_hunk}
use Rattle.tables.specs.Tables.{tables_size, tables_in, jlp_of, cartridge_of, tables_refusal}
use Rattle.blocks.specs.Judged.{Judged}
use Rattle.blocks.specs.Blocks.{frame_size, payload_in, tables_type, hunk_type, is_tables}
use Rattle.blocks.specs.Frames.{frame_at, on_frame}
use Rattle.blocks.specs.Judged.{judged_of}
use Rattle.blocks.specs.Images.{first_block, blocks_in, hunks_in, word_count}
use Rattle.load.specs.declared.Next.{Next}
use Rattle.load.specs.declared.Found.{Found}
use Rattle.load.specs.declared.Loaded.{Loaded}
use Rattle.load.specs.Load.{walk_rows, hunks_laid}

-- a block judged with its payload's own checksum
abbrev pub judgement_of : ℕ → Bool → ℕ → List ℕ → Judged
judgement_of m earlier p x = judged_of m earlier p (crc324_of (payload_in x)) x

-- the place of the tables block after a block of type t at p, where it stood at `tables` or nowhere
unfoldable pub tables_after : Option ℕ → ℕ → ℕ → Option ℕ
tables_after tables p t = cond (eqb t tables_type) (Some p) tables

-- one step: the end, a refusal, or the next block's place, the tables block's, and a number of words
abbrev pub next_at : ℕ → Option ℕ → ℕ → Next
next_at q tables words = record { place = q; tables = tables; words = words }

abbrev pub on_judged : Judged → ℕ → Option ℕ → Result (Option Next) Refusal
on_judged j q tables = outcome j.refusal (Some (next_at q tables j.words))

unfoldable pub step_of : List ℕ → ℕ → Option ℕ → ℕ → Result (Option Next) Refusal
step_of s m tables p =
    on_frame (frame_at s p) (Ok None) (Err (refuse 5 p)) (λ t q. on_judged (judgement_of m (is_some tables) p (part s p q)) q (tables_after tables p t))

abbrev pub found_at : ℕ → ℕ → ℕ → Found
found_at tables blocks words = record { tables = tables; blocks = blocks; words = words }

unfoldable pub ended_at : ℕ → Option ℕ → ℕ → ℕ → Result Found Refusal
ended_at size None blocks words = Err (refuse 8 size)
ended_at size (Some tables) blocks words = Ok (found_at tables blocks words)

-- where the first tables block stands, the first block being at p; 0 where there is none
unfoldable pub tables_place : ℕ → List (List ℕ) → ℕ
tables_place p [] = 0
tables_place p (x ∷ xs) = cond (is_tables x) p (tables_place (p + length x) xs)

-- what is found of an image: the first tables block, and the counts
unfoldable pub found_in : List ℕ → Found
found_in s = found_at (tables_place first_block (blocks_in s)) (length (blocks_in s)) (word_count (hunks_in (blocks_in s)))

unfoldable pub found_of : List ℕ → ℕ → Result Found Refusal
found_of s m = outcome (first_refusal (walk_rows s m)) (found_in s)

-- the header and the blocks
unfoldable pub checked_of : List ℕ → ℕ → Result Found Refusal
checked_of s m = outcome (first_refusal (header_rows s ++ walk_rows s m)) (found_in s)

-- a tables block at t lies in the file, with a payload of the right size
abbrev pub tables_at : List ℕ → ℕ → List ℕ
tables_at s t = part s (t + frame_size) (t + frame_size + tables_size)

pub record Tabled (s : List ℕ) (t : ℕ) : Type 0 where
  pub lies : t + frame_size + tables_size ≤ length s

-- behind the checking pass: 10, 11 and 13, then the answer
abbrev pub end_refusal : List ℕ → ℕ → ℕ → ℕ → Refusal
end_refusal s t m f = tables_refusal (flags_of s) (tables_in (tables_at s t)).flips m f

abbrev pub loaded_by : List ℕ → Found → Loaded
loaded_by s found =
    record {
      cartridge = cartridge_of (jlp_of (flags_of s)) (tables_at s found.tables);
      compat = compat_of (flags_of s);
      blocks = found.blocks;
      words = found.words;
    }

unfoldable pub finished_of : List ℕ → ℕ → ℕ → Found → Result Loaded Refusal
finished_of s m f found = outcome (end_refusal s found.tables m f) (loaded_by s found)

-- the hunk of a block of type t, stored
unfoldable pub block_stored : List ℕ → ℕ → List ℕ → List ℕ
block_stored x t ram = cond (eqb t hunk_type) (store_hunk (payload_in x) ram) ram

unfoldable pub finished_ram_of : List ℕ → ℕ → List ℕ → ℕ → List ℕ
finished_ram_of s t ram f = cond (passes (end_refusal s t (lent ram) f)) (hunks_laid (blocks_in s) ram) ram
