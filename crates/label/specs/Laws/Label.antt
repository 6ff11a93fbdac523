-- Writing a label: refused exactly when a row holds, in their order, and a refusal leaves the buffer; and reading what was written gives the
-- same sub-records.
use Rattle.std.specs.Prelude.{ℕ, ◌+◌, ◌≤◌, ◌≡◌, List, false, ◌↔◌, length, ltb}
use Rattle.std.proofs.Common.{ap, arith, ne_eqb, ltb-false, le-ltb}
use Rattle.basics.specs.declared.Refusal.{Refusal}
use Rattle.basics.specs.Rows.{Gives, Silent}
use Rattle.basics.specs.Laws.Tests.{or_false_left, or_false_right}
use Rattle.basics.specs.Laws.Puts.{put_all}
use Rattle.basics.specs.Laws.Refusals.{Refusing, refused_exactly, accepted_exactly}
use Rattle.sums.specs.Crc.{crc324_of}
use Rattle.metadata.specs.Records.{is_cut, subs_of}
use Rattle.blocks.specs.Blocks.{frame_size, payload_in, metadata_type, payload_limit}
use Rattle.blocks.specs.Laws.ReadBack as Made
use Rattle.label.specs.Label.{label_block, wrong_label, refusal_rows, refusal_of, writing_of, written_of}

-- a label that 12 passes is whole, and a block's length can say its own
pub label_whole : (label : List ℕ) → wrong_label label ≡ false → is_cut label ≡ false
unfolding wrong_label
label_whole label e = or_false_left (is_cut label) _ e

pub label_fits : (label : List ℕ) → wrong_label label ≡ false → length label ≤ payload_limit
unfolding wrong_label
label_fits label e = ltb-false _ _ (or_false_right (is_cut label) (ltb payload_limit (length label)) e)

-- reading what was written gives the same sub-records
pub label_back : (label : List ℕ) → subs_of (payload_in (label_block label)) ≡ subs_of label
label_back label = ap subs_of (Made.payload_back metadata_type (crc324_of label) label)

-- into a part of just its size
pub written_all : (out label : List ℕ) → wrong_label label ≡ false → length out ≡ frame_size + length label → written_of out label ≡ label_block label
unfolding written_of refusal_of
written_all out label right e =
    let l : length (label_block label) ≡ frame_size + length label = Made.length_block metadata_type label in
    rw (right, le-ltb (length out) (length (label_block label)) (omega arith)) (put_all (label_block label) out (omega arith))

-- what a writing answers and leaves, for every label and buffer
pub record Answers (out label : List ℕ) : Type 0 where
  pub refused : (r : Refusal) → (r.number ≡ 0 → ⊥) → ((writing_of out label).refusal ≡ r) ↔ Gives (refusal_rows out label) r
  pub accepted : ((writing_of out label).refusal.number ≡ 0) ↔ Silent (refusal_rows out label)
  pub kept : ((writing_of out label).refusal.number ≡ 0 → ⊥) → written_of out label ≡ out

pub answers : (out label : List ℕ) → Answers out label
unfolding writing_of written_of refusal_of
answers out label =
    let rows : Refusing (refusal_rows out label) = ((λ z. omega arith), ((λ z. omega arith), tt)) in
    record {
      refused = λ r h. refused_exactly (refusal_rows out label) rows r h;
      accepted = accepted_exactly (refusal_rows out label) rows;
      kept = λ n. rw (ne_eqb _ _ n);
    }
