-- Sub-records behind a label's, and blocks behind an image's, never change an earlier answer.
use Rattle.std.specs.Prelude.{ℕ, ◌≡◌, true, false, length, eqb, Some, Ok}
use Rattle.std.proofs.Common.{sym, ◌∙◌, arith, eqb-true}
use Rattle.std.proofs.Math.Path.{ap}
use mathlib.Core.List.{List, ◌++◌}
use Rattle.std.proofs.lemmas.Bool.{eqb-false}
use Rattle.basics.specs.declared.Refusal.{Refusal}
use Rattle.basics.specs.Lists.{Each}
use Rattle.basics.specs.Refusals.{refuse, no_refusal}
use Rattle.basics.specs.Laws.Each.{each_append}
use Rattle.basics.specs.Laws.Tests.{cases}
use Rattle.places.specs.Limits.{lent_limit}
use Rattle.metadata.specs.declared.Span.{Span}
use Rattle.metadata.specs.Records.{is_cut}
use Rattle.metadata.specs.Texts.{seek_in}
use Rattle.metadata.specs.Laws.Texts.{seek_behind}
use Rattle.metadata.specs.Laws.Behind.{bytes_behind}
use Rattle.blocks.specs.Blocks.{Block}
use Rattle.blocks.specs.Frames.{ends_at}
use Rattle.blocks.specs.Images.{first_block, blocks_in, image_of}
use Rattle.blocks.specs.Laws.Images.{blocks_back}
use Rattle.load.specs.Load.{refusal_by_size}
use Rattle.lookup.specs.declared.Place.TheVariants.{Label, Image}
use Rattle.lookup.specs.Lookup.{texts_in_blocks, image_texts, refusal_of, find_of}
use Rattle.lookup.specs.Laws.Texts.{texts_append}
use Rattle.lookup.specs.Laws.Lookup.{refused_image, refused_label}
use Rattle.lookup.specs.Laws.Found.{LabelHas, label_has, ImageHas, image_has}

-- a lookup that is not refused: the image loads, and the label is whole
module _ (label image : List ℕ) (z : (refusal_of label image).number ≡ 0) where
  image_passes : (refusal_by_size image lent_limit).number ≡ 0
  image_passes =
      cases (eqb (refusal_by_size image lent_limit).number 0) (λ e. eqb-true (refusal_by_size image lent_limit).number 0 e)
      (λ e.
      let d : (refusal_by_size image lent_limit).number ≡ 0 → ⊥ = eqb-false (refusal_by_size image lent_limit).number 0 e in
      absurd (d (ap (λ (r : Refusal). r.number) (sym (refused_image label image d)) ∙ z)))

  label_passes : is_cut label ≡ false
  label_passes =
      cases (is_cut label)
      (λ e.
      let k : refusal_of label image ≡ refuse 12 0 = refused_label label image image_passes ∙ rw e in
      let o : (refuse 12 0).number ≡ 0 = ap (λ (r : Refusal). r.number) (sym k) ∙ z in
      absurd (omega arith))
      (λ e. e)

-- with a whole label and an image that loads nothing is refused
none_refused : (label image : List ℕ) → (refusal_by_size image lent_limit).number ≡ 0 → is_cut label ≡ false → refusal_of label image ≡ no_refusal
none_refused label image z h = refused_label label image z ∙ rw h

-- sub-records behind a label's
pub label_behind : (label more image : List ℕ) (tag n : ℕ) (x : Span) → is_cut (label ++ more) ≡ false → find_of label image tag n ≡ Ok (Some (Label x))
    → find_of (label ++ more) image tag n ≡ Ok (Some (Label x))
unfolding find_of
label_behind label more image tag n x h q =
    let l : LabelHas label image tag n x = label_has label image tag n x q in
    let k : refusal_of (label ++ more) image ≡ no_refusal = none_refused (label ++ more) image (image_passes label image l.passed) h in
    rw (k, bytes_behind tag n x label more l.found)

-- blocks behind an image's, in an image that loads
module _ (label image later : List ℕ) (more : List (List ℕ)) (has : blocks_in later ≡ blocks_in image ++ more) (z : (refusal_by_size later lent_limit).number ≡ 0) (tag n : ℕ) (x : Span) where
  pub image_behind : find_of label image tag n ≡ Ok (Some (Image x)) → find_of label later tag n ≡ Ok (Some (Image x))
  unfolding find_of
  image_behind q =
      let i : ImageHas label image tag n x = image_has label image tag n x q in
      let k : refusal_of label later ≡ no_refusal = none_refused label later z (label_passes label image i.passed) in
      let t : seek_in n (image_texts tag later) ≡ Ok x =
      ap (λ (xs : List (List ℕ)). seek_in n (texts_in_blocks tag first_block xs)) has ∙ ap (seek_in n) (texts_append tag first_block (blocks_in image) more)
      ∙ seek_behind n x (image_texts tag image) _ i.found in
      rw (k, i.fewer, t)

  pub label_stays : find_of label image tag n ≡ Ok (Some (Label x)) → find_of label later tag n ≡ Ok (Some (Label x))
  unfolding find_of
  label_stays q =
      let l : LabelHas label image tag n x = label_has label image tag n x q in
      let k : refusal_of label later ≡ no_refusal = none_refused label later z (label_passes label image l.passed) in
      rw (k, l.found)

-- an image with blocks put behind its own, before its end, has them so
pub blocks_behind : (header : List ℕ) (xs more : List (List ℕ)) (end : List ℕ) → length header ≡ 32 → Each Block xs → Each Block more → ends_at end 0 ≡ true
    → blocks_in (image_of header (xs ++ more) end) ≡ blocks_in (image_of header xs end) ++ more
blocks_behind header xs more end l b c e =
    blocks_back header (xs ++ more) end l (each_append xs more b c) e ∙ ap (λ (ys : List (List ℕ)). ys ++ more) (sym (blocks_back header xs end l b e))
