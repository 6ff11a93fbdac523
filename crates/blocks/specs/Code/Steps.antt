-- The parts of a frame's reading and of a block's judgement.
use Rattle.std.specs.Prelude.{ℕ, ◌+◌, List, Bool, Result, Ok, Err, cond, not, ◌&&◌, ◌||◌, length, get_or, eqb, ltb}
use Rattle.basics.specs.Lists.{part}
use Rattle.basics.specs.Refusals.{refuse}
use Rattle.sums.specs.Crc.{dowcrc_of}
use Rattle.tables.specs.Tables.{tables_size}
use Rattle.metadata.specs.Records.{is_cut}
use Rattle.blocks.specs.declared.Frame.{Frame}
use Rattle.blocks.specs.declared.Frame.TheVariants.{Cut, Framed}
use Rattle.basics.specs.declared.Refusal.{Refusal}
use Rattle.blocks.specs.Blocks.{frame_size, start_size, sum_said, payload_in, tables_type, hunk_type, metadata_type}
use Rattle.blocks.specs.Frames.{next_of}

-- a block of type t whose frame lies in the image
unfoldable pub framed_at : List ℕ → ℕ → ℕ → Frame
framed_at s p t =
    cond (not (eqb (dowcrc_of (part s p (p + start_size))) (get_or s (p + start_size) 0))
    || ltb (length s) (next_of s p)) Cut (Framed t (next_of s p))

-- 6, 12 and 8, of a block of type t
unfoldable pub sum_by : ℕ → ℕ → List ℕ → Bool
sum_by t sum x = (eqb t tables_type || eqb t hunk_type) && not (eqb sum (sum_said x))

unfoldable pub metadata_by : ℕ → ℕ → List ℕ → Bool
metadata_by t sum x = eqb t metadata_type && (not (eqb sum (sum_said x)) || is_cut (payload_in x))

unfoldable pub tables_by : ℕ → ℕ → Bool → Bool
tables_by t n earlier = eqb t tables_type && (not (eqb n tables_size) || earlier)

-- a hunk, by its check
abbrev pub checked_of : Result ℕ ℕ → Result ℕ Refusal
checked_of (Ok n) = Ok n
checked_of (Err k) = Err (refuse 9 (frame_size + k))
