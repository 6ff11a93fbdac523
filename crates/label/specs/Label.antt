-- A label file is a series of sub-records; a metadata block is written of it, its bytes as they stand (02, W-204).
use Rattle.std.specs.Prelude.{ℕ, List, [], ◌∷◌, Bool, cond, ◌||◌, length, eqb, ltb, Result}
use Rattle.basics.specs.declared.Refusal.{Refusal}
use Rattle.basics.specs.declared.Declined.{Declined}
use Rattle.basics.specs.Lists.{put_front}
use Rattle.basics.specs.Rows.{Row}
use Rattle.basics.specs.Refusals.{refuse, first_refusal, passes, outcome_at}
use Rattle.metadata.specs.Records.{is_cut}
use Rattle.blocks.specs.Blocks.{block_of, metadata_type, payload_limit}

abbrev pub label_block : List ℕ → List ℕ
label_block label = block_of metadata_type label

-- the blocks that a builder puts for a label: none where it is empty
abbrev pub label_blocks : List ℕ → List (List ℕ)
label_blocks label = cond (eqb (length label) 0) [] (label_block label ∷ [])

-- 12: cut inside a sub-record, or longer than a block's length can say
unfoldable pub wrong_label : List ℕ → Bool
wrong_label label = is_cut label || ltb payload_limit (length label)

-- the refusals of writing the block: 12; then 29, where the buffer is shorter than the block
abbrev pub refusal_rows : List ℕ → List ℕ → List (Row Refusal)
refusal_rows out label =
    (wrong_label label, refuse 12 0)
    ∷ (ltb (length out) (length (label_block label)), refuse 29 0)
    ∷ []

unfoldable pub refusal_of : List ℕ → List ℕ → Refusal
refusal_of out label = first_refusal (refusal_rows out label)

-- what writing a label comes to: its refusal, and a length
pub record Writing : Type 0 where
  pub refusal : Refusal
  pub length : ℕ

-- the answer: the refusal, and zero in all else but the length at 29; and the block's length where nothing is refused
unfoldable pub writing_of : List ℕ → List ℕ → Writing
writing_of out label = record { refusal = refusal_of out label; length = cond (eqb (refusal_of out label).number 12) 0 (length (label_block label)) }

-- what the code answers of it: the block's length, or the refusal with the length that is needed
abbrev pub label_answer : Writing → Result ℕ Declined
label_answer w = outcome_at w.refusal w.length w.length

-- the buffer: the block at its front where it was written, and all bytes kept where it was not
unfoldable pub written_of : List ℕ → List ℕ → List ℕ
written_of out label = cond (passes (refusal_of out label)) (put_front (label_block label) out) out
