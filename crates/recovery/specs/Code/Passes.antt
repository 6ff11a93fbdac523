-- What the surveying pass answers and notes over the blocks that are read, and what stands behind it.
use Rattle.std.specs.Prelude.{ℕ, ◌+◌, ◌≡◌, List, ◌++◌, map, Bool, cond, length, set, eqb, ltb, Option, Some, None, Result, Ok, Err}
use Rattle.basics.specs.declared.Refusal.{Refusal}
use Rattle.basics.specs.Lists.{part, flat}
use Rattle.basics.specs.Refusals.{refuse, first_refusal, passes, outcome, passed}
use Rattle.places.specs.Limits.{lent_limit, image_limit}
use Rattle.tables.specs.Tables.{tables_in, flash_words, tables_refusal}
use Rattle.blocks.specs.Judged.{Judged}
use Rattle.blocks.specs.Blocks.{payload_in, hunk_type, tables_type, end_mark}
use Rattle.blocks.specs.Frames.{frame_at, on_frame}
use Rattle.blocks.specs.Images.{first_block}
use Rattle.load.specs.Code.Passes.{judgement_of}
use Rattle.recovery.specs.declared.Step.{Step}
use Rattle.recovery.specs.declared.Step.TheVariants.{Stops, Keeps, Drops}
use Rattle.recovery.specs.declared.Found.{Found}
use Rattle.recovery.specs.Salvage.{left_out, kept_in, drops_in, stopped_of, stop_answer, closing, blocks_rows}

-- one step: the end or a block that is cut, a refusal, a block that is kept with its type, or one that is left out; each with the next place
abbrev pub on_judged : Judged → ℕ → ℕ → Result Step Refusal
on_judged j t q = cond (passes j.refusal) (Ok (Keeps t q)) (cond (eqb t hunk_type) (Ok (Drops q)) (Err j.refusal))

unfoldable pub step_of : List ℕ → Bool → ℕ → Result Step Refusal
step_of s earlier p = on_frame (frame_at s p) (Ok (Stops None)) (Ok (Stops (Some p))) (λ t q. on_judged (judgement_of lent_limit earlier p (part s p q)) t q)

-- what a load refuses of these flags and the tables in a payload; and that after a block of type t
unfoldable pub late_of : List ℕ → List ℕ → Refusal
late_of flags payload = tables_refusal flags (tables_in payload).flips lent_limit (flash_words flags)

abbrev pub Late : Type 0
Late = Result (Unit {0}) Refusal

unfoldable pub late_after : Option Late → List ℕ → List ℕ → ℕ → Option Late
late_after late flags x t = cond (eqb t tables_type) (Some (passed (late_of flags (payload_in x)))) late

-- behind the blocks: "none" of 8, then what was refused of the tables
unfoldable pub ended_by : ℕ → Option Late → Found → Result Found Refusal
ended_by size None found = Err (refuse 8 size)
ended_by size (Some (Ok u)) found = Ok found
ended_by size (Some (Err r)) found = Err r

-- the blocks kept and left out, the bytes of header and kept blocks, and where they stop
abbrev pub found_of : List ℕ → Found
found_of s =
    record {
      kept = length (kept_in s);
      dropped = length (drops_in s);
      long = first_block + length (flat (kept_in s));
      stopped = stop_answer (stopped_of s);
    }

unfoldable pub survey_of : List ℕ → Result Found Refusal
survey_of s = outcome (first_refusal (blocks_rows s)) (found_of s)

-- notes of blocks: from the first on, whether each is left out, and then whatever stands there
pub record Noted (xs : List (List ℕ)) (notes : List Bool) : Type 0 where
  pub rest : List Bool
  pub is : notes ≡ map left_out xs ++ rest

-- so many bytes, closed
abbrev pub closed_size : ℕ → ℕ
closed_size n = n + length (closing n)

-- a buffer with the end put behind so many bytes
unfoldable pub end_put : ℕ → List ℕ → List ℕ
end_put n out = cond (ltb n image_limit) (set out n end_mark) out
