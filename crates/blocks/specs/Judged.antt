-- What is asked of one block, where it stands at p of an image and its payload has this checksum: 7, 6 or 12, 8, 9, in that order (01, Load
-- order; 02, W-204).
use Rattle.std.specs.Prelude.{ℕ, ◌+◌, List, [], ◌∷◌, Bool, cond, not, Result, ◌&&◌, ◌||◌, length, eqb}
use Rattle.basics.specs.declared.Refusal.{Refusal}
use Rattle.basics.specs.Rows.{Row}
use Rattle.basics.specs.Refusals.{refuse, first_refusal, passes, outcome}
use Rattle.hunk.specs.Hunk.{check_hunk, broken, break_of, words_of}
use Rattle.tables.specs.Tables.{tables_size}
use Rattle.metadata.specs.Records.{is_cut}
use Rattle.blocks.specs.Blocks.{frame_size, type_of, size_said, sum_said, payload_in, encrypted_type, is_tables, is_hunk, is_metadata}

-- 7: block type 0x00
abbrev pub is_encrypted : List ℕ → Bool
is_encrypted x = eqb (type_of x) encrypted_type

-- 6: payload checksum wrong, type 1 or 2
abbrev pub wrong_sum : ℕ → List ℕ → Bool
wrong_sum sum x = (is_tables x || is_hunk x) && not (eqb sum (sum_said x))

-- 12: metadata payload with a wrong checksum, or cut inside a sub-record (02, W-204)
abbrev pub wrong_metadata : ℕ → List ℕ → Bool
wrong_metadata sum x = is_metadata x && (not (eqb sum (sum_said x)) || is_cut (payload_in x))

-- 8: tables payload not 1,280 bytes, or a second tables block: `earlier` says that one stands before it
abbrev pub wrong_tables : Bool → List ℕ → Bool
wrong_tables earlier x = is_tables x && (not (eqb (size_said x) tables_size) || earlier)

-- 9: hunk cut or reserved encoding, or a word outside m words of lent RAM
abbrev pub wrong_hunk : ℕ → List ℕ → Bool
wrong_hunk m x = is_hunk x && broken (check_hunk (payload_in x) m)

-- where, from the block's first byte on: at the first byte of the data block that is cut, reserved, or holds the first word outside, or at the
-- payload's first byte where the hunk is cut before any data block (02, W-205)
abbrev pub break_in : ℕ → List ℕ → ℕ
break_in m x = frame_size + break_of (check_hunk (payload_in x) m)

unfoldable pub judge_rows : ℕ → Bool → ℕ → ℕ → List ℕ → List (Row Refusal)
judge_rows m earlier p sum x =
    (is_encrypted x, refuse 7 p)
    ∷ (wrong_sum sum x, refuse 6 p)
    ∷ (wrong_metadata sum x, refuse 12 p)
    ∷ (wrong_tables earlier x, refuse 8 p)
    ∷ (wrong_hunk m x, refuse 9 (p + break_in m x))
    ∷ []

-- the refusal, and where there is none the number of words that the block stores
pub record Judged : Type 0 where
  pub refusal : Refusal
  pub words : ℕ

unfoldable pub judged_of : ℕ → Bool → ℕ → ℕ → List ℕ → Judged
judged_of m earlier p sum x =
    record {
      refusal = first_refusal (judge_rows m earlier p sum x);
      words = cond (passes (first_refusal (judge_rows m earlier p sum x)) && is_hunk x) (length (words_of (payload_in x))) 0;
    }

-- what the code answers of it
abbrev pub verdict : Judged → Result ℕ Refusal
verdict j = outcome j.refusal j.words
