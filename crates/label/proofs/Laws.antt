-- One law for each return, its premises as the code's tests and calls give them.
use Prim.Native.Nat.{ℕ, ◌+◌, ◌-◌, ◌≤◌, ◌<◌}
use mathlib.Core.Path.{◌≡◌, refl, sym, ◌∙◌}
use mathlib.Core.List.{List}
use mathlib.Core.Bool.{Bool, true, false}
use native.Mathlib.Omega.{arith}
use lib.ListN.{length}
use borrow.Author.Tests.{lt-ltb, le-ltb}
use borrow.Rule.Slice.PartMut.{put_mid}
use Rattle.std.specs.Prelude.{Ok, Err}
use Rattle.basics.specs.declared.Refusal.{Refusal}
use Rattle.basics.specs.Lists.{part, put_front}
use Rattle.basics.specs.Refusals.{refuse, no_refusal, declined}
use Rattle.basics.specs.Laws.Wrote.{Wrote, wrote_none, wrote_part}
use Rattle.basics.specs.Laws.Puts.{put_wrote}
use Rattle.sums.specs.Crc.{crc324_of}
use Rattle.blocks.specs.Blocks.{frame_size, payload_limit, metadata_type, put_frame}
use Rattle.blocks.specs.Laws.Payloads.{placed, framed_placed}
use Rattle.blocks.specs.Laws.ReadBack.{length_block}
use Rattle.label.specs.Label.{label_block, wrong_label, refusal_of, label_answer, writing_of, written_of}
use Rattle.label.specs.Laws.Label.{label_fits}

-- the label put in place, then its frame
pub label_placed : (label out ys after : List ℕ) (sum : ℕ) → length out ≡ frame_size + length label → length label ≤ payload_limit
    → ys ≡ put_front label (part out frame_size (length out)) → sum ≡ crc324_of label → after ≡ put_frame metadata_type sum (placed out ys)
    → after ≡ label_block label
label_placed label out ys after sum n m ey es e = framed_placed label out ys n ey (omega arith) metadata_type sum after e ∙ rw es

-- 12, 29, and the block written
module _ (out label : List ℕ) (b : Bool) (eb : b ≡ wrong_label label) where
  pub write_12 : b ≡ true → (r : Refusal) → r ≡ refuse 12 0 → Err (declined r 0) ≡ label_answer (writing_of out label)
  unfolding writing_of refusal_of
  write_12 h r er = rw (← eb, h, er)

  pub kept_12 : b ≡ true → out ≡ written_of out label
  unfolding written_of refusal_of
  kept_12 h = rw (← eb, h)

  module _ (h : b ≡ false) where
    good : wrong_label label ≡ false
    good = sym eb ∙ h

    pub short_enough : length label ≤ payload_limit
    short_enough = label_fits label good

    long : length (label_block label) ≡ frame_size + length label
    long = length_block metadata_type label

    module _ (l : length out < frame_size + length label) where
      refused_29 : refusal_of out label ≡ refuse 29 0
      unfolding refusal_of
      refused_29 = rw (good, lt-ltb (length out) (length (label_block label)) (omega (arith, long)))

      pub write_29 : (r : Refusal) → r ≡ refuse 29 0 → Err (declined r (frame_size + length label)) ≡ label_answer (writing_of out label)
      unfolding writing_of
      write_29 r er = rw (refused_29, er, long)

      pub kept_29 : out ≡ written_of out label
      unfolding written_of
      kept_29 = rw refused_29

    module _ (l : frame_size + length label ≤ length out) where
      accepted : refusal_of out label ≡ no_refusal
      unfolding refusal_of
      accepted = rw (good, le-ltb (length out) (length (label_block label)) (omega (arith, long)))

      pub write_done : Ok (frame_size + length label) ≡ label_answer (writing_of out label)
      unfolding writing_of
      write_done = rw (accepted, long)

      pub put_done : (ys : List ℕ) → ys ≡ label_block label → put_mid 0 (frame_size + length label - 0) out ys ≡ written_of out label
      unfolding written_of
      put_done ys ey =
          let w : Wrote out (put_mid 0 (frame_size + length label - 0) out ys) (label_block label) =
          wrote_part out out _ 0 (frame_size + length label - 0) ys (label_block label) (wrote_none out) refl (omega (arith, long)) (omega arith) ey in
          rw accepted (put_wrote out _ (label_block label) w)
