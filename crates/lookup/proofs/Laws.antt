-- One law for each return, its premises as the code's tests and calls give them; and the walk over an image's blocks.
use Prim.Native.Nat.{ℕ, ◌+◌, ◌-◌, ◌<◌, ◌≤◌, ◌^◌, min}
use mathlib.Core.Path.{◌≡◌, refl, sym, ap, ◌∙◌}
use mathlib.Core.List.{List, [], ◌∷◌, ◌++◌}
use mathlib.Core.Bool.{Bool, true, false, cond}
use native.Mathlib.Omega.{arith}
use lib.ListN.{length, length-drop}
use lib.Dec.{eqb}
use mir.Val.{Fits}
use mir.Syntax.{w64}
use borrow.Author.Tests.{eq-eqb, ne_eqb}
use Rattle.basics.specs.declared.Refusal.{Refusal}
use Rattle.basics.specs.Lists.{part}
use Rattle.basics.specs.Refusals.{refuse, no_refusal}
use Rattle.basics.specs.Laws.Lists.{length_part}
use Rattle.basics.specs.Laws.Tests.{cases}
use Rattle.places.specs.Limits.{lent_limit}
use Rattle.std.specs.Prelude.{Option, Some, None, Result, Ok, Err, is_ok}
use Rattle.basics.specs.Refusals.{passed}
use Rattle.basics.specs.Laws.Outcomes.{outcome_ok, outcome_err, ok_none, err_is, err_some}
use Rattle.metadata.specs.declared.Span.{Span}
use Rattle.metadata.specs.Records.{is_cut}
use Rattle.metadata.specs.Texts.{is_single, texts_of, seek_in, given_twice}
use Rattle.metadata.specs.Laws.Texts.{seek_none, second, Within, within, seek_holds}
use Rattle.blocks.specs.declared.Frame.{Frame}
use Rattle.blocks.specs.declared.Frame.TheVariants.{Over, Cut, Framed}
use Rattle.blocks.specs.Blocks.{payload_in, is_metadata}
use Rattle.blocks.specs.Frames.{frame_at}
use Rattle.blocks.specs.Images.{first_block}
use Rattle.blocks.specs.Laws.Payloads.{payload_lent}
use Rattle.blocks.specs.Laws.Frames.{framed_type}
use Rattle.blocks.specs.Laws.Images.{At as Walked, at_start, Next, at_next, at_over, at_cut}
use Rattle.load.specs.Load.{refusal_by_size}
use Rattle.lookup.specs.declared.Place.{Place}
use Rattle.lookup.specs.declared.Place.TheVariants.{Label, Image}
use Rattle.lookup.specs.Lookup.{moved, texts_in_blocks, image_texts, refusal_of, text_of, find_of}
use Rattle.lookup.specs.Code.Blocks.{block_texts}
use Rattle.lookup.specs.Laws.Texts.{found_here, passed_here}
use Rattle.lookup.specs.Laws.Lookup.{refused_image, refused_label}

-- one block
module _ (x : List ℕ) (t tag n : ℕ) where
  pub block_other : (t ≡ 3 → ⊥) → Err n ≡ seek_in n (block_texts tag t x)
  unfolding block_texts
  block_other h = rw (ne_eqb _ _ h) (sym (seek_none n))

  pub block_ours : t ≡ 3 → (a : ℕ) → a ≡ min 8 (length x) → (r : Result Span ℕ) → r ≡ seek_in n (texts_of tag (part x a (length x))) → r ≡ seek_in n (block_texts tag t x)
  unfolding block_texts
  block_ours h a ea r er = er ∙ rw (eq-eqb _ _ h, payload_lent x a ea)

-- the walk: the blocks before have too few texts, and so many are still to be passed
pub record Seeking (s : List ℕ) (tag n p left : ℕ) : Type 0 where
  pub before : List (List ℕ)
  pub at : Walked s p before
  pub passed : seek_in n (texts_in_blocks tag first_block before) ≡ Err left

pub seek_start : (s : List ℕ) (tag n : ℕ) → Seeking s tag n 32 n
unfolding texts_in_blocks
seek_start s tag n = record { before = []; at = at_start s; passed = seek_none n }

module _ (s : List ℕ) (tag n p left : ℕ) (c : Seeking s tag n p left) (f : Frame) (ef : f ≡ frame_at s p) where
  pub seek_over : ((t q : ℕ) → f ≡ Framed t q → ⊥) → Err left ≡ seek_in n (image_texts tag s)
  seek_over d = go f ef d
    where
      go : (g : Frame) → g ≡ frame_at s p → ((t q : ℕ) → g ≡ Framed t q → ⊥) → Err left ≡ seek_in n (image_texts tag s)
      go Over e d = rw (at_over s p c.before c.at (sym e)).all (sym c.passed)
      go Cut e d = rw (at_cut s p c.before c.at (sym e)).all (sym c.passed)
      go (Framed t q) e d = absurd (d t q refl)

  module _ (t q : ℕ) (e : f ≡ Framed t q) where
    next : Next s p q c.before
    next = at_next s p c.before t q c.at (sym ef ∙ e)

    pub block_later : p ≤ q
    block_later = omega (arith, next.later)

    pub block_inside : q ≤ length s
    block_inside = next.inside

    pub seek_less : length s - q < length s - p
    seek_less = omega (arith, next.later, next.inside)

    abbrev one : List ℕ
    one = part s p q

    texts_are : block_texts tag t one ≡ cond (is_metadata one) (texts_of tag (payload_in one)) []
    unfolding block_texts
    texts_are = rw (framed_type s p t q (sym ef ∙ e))

    -- a text of this block ends in it
    ends : (y : Span) → Ok y ≡ seek_in left (block_texts tag t one) → (y.from ≤ y.to) × (p + 8 + y.to ≤ q)
    unfolding block_texts
    ends y h =
        cases (eqb t 3)
        (λ z.
        let k : seek_in left (texts_of tag (payload_in one)) ≡ Ok y = sym (rw z at h) in
        let w : Within (length (payload_in one)) y = seek_holds left y (texts_of tag (payload_in one)) (within tag (payload_in one)) k in
        (w.ordered, omega (arith, w.inside, length-drop 8 one, length_part s p q next.inside, next.later)))
        (λ z.
        let k : Ok y ≡ Err left = (rw z at h) ∙ seek_none left in
        let o : ◌≡◌ {A = ℕ} 0 1 = cc in
        absurd (omega arith))

    module _ (x : Result Span ℕ) (ex : x ≡ seek_in left (block_texts tag t one)) where
      module _ (y : Span) (h : x ≡ Ok y) where
        pub seek_found : Ok (record { from = p + 8 + y.from; to = p + 8 + y.to }) ≡ seek_in n (image_texts tag s)
        seek_found =
            let k : seek_in left (cond (is_metadata one) (texts_of tag (payload_in one)) []) ≡ Ok y = rw texts_are at (sym ex ∙ h) in
            ap (λ (i : ℕ). Ok (moved (i + 8) y)) c.at.place ∙ sym (found_here tag n first_block left c.before c.passed one next.rest y k)
            ∙ ap (λ (xs : List (List ℕ)). seek_in n (texts_in_blocks tag first_block xs)) (sym next.all)

        pub from_fits : length s < 2 ^ 64 → Fits w64 (p + 8 + y.from)
        from_fits l = let w = ends y (sym h ∙ ex) in omega (arith, w.0, w.1, next.inside)

        pub to_fits : length s < 2 ^ 64 → Fits w64 (p + 8 + y.to)
        to_fits l = let w = ends y (sym h ∙ ex) in omega (arith, w.1, next.inside)

      pub start_fits : length s < 2 ^ 64 → Fits w64 (p + 8)
      start_fits l = omega (arith, next.later, next.inside)

      pub seek_more : (k : ℕ) → x ≡ Err k → Seeking s tag n q k
      unfolding texts_in_blocks
      seek_more k h =
          let g : seek_in left (cond (is_metadata one) (texts_of tag (payload_in one)) []) ≡ Err k = rw texts_are at (sym ex ∙ h) in
          record {
            before = c.before ++ (one ∷ []);
            at = next.at;
            passed = passed_here tag n first_block left c.before c.passed one [] k g ∙ seek_none k;
          }

pub ruleset seeks = (seek_start, seek_over, block_later, block_inside, seek_less, seek_found, from_fits, to_fits, start_fits, seek_more)

-- given twice: by the second text
pub twice_second : (s : List ℕ) (tag : ℕ) (b : Bool) → b ≡ is_single tag → b ≡ true → (x : Result Span ℕ) → x ≡ seek_in 2 (image_texts tag s) → is_ok x ≡ given_twice tag (image_texts tag s)
twice_second s tag b eb h x ex = ap is_ok ex ∙ second (image_texts tag s) ∙ rw (← eb, h)

-- what is refused, by the code's cases
module _ (label image : List ℕ) where
  pub refuses_image : (r : Refusal) → passed (refusal_by_size image lent_limit) ≡ Err r → Err r ≡ passed (refusal_of label image)
  refuses_image r e =
      rw (refused_image label image (err_some (refusal_by_size image lent_limit) tt r e)) (sym e)

  module _ (u : Unit {0}) (z : passed (refusal_by_size image lent_limit) ≡ Ok u) (b : Bool) (eb : b ≡ is_cut label) where
    asked : refusal_of label image ≡ cond b (refuse 12 0) no_refusal
    asked = refused_label label image (ok_none (refusal_by_size image lent_limit) tt u z) ∙ rw eb

    pub refuses_label : b ≡ true → (q : Refusal) → q ≡ refuse 12 0 → Err q ≡ passed (refusal_of label image)
    refuses_label h q eq = ap Err eq ∙ rw (asked, h)

    pub refuses_none : b ≡ false → Ok tt ≡ passed (refusal_of label image)
    refuses_none h = rw (asked, h)

-- what is found, by the code's cases
module _ (label image : List ℕ) (tag n : ℕ) where
  module _ (x : Result Span ℕ) (ex : x ≡ seek_in n (texts_of tag label)) where
    pub text_label : (z : Span) → x ≡ Ok z → Some (Label z) ≡ text_of label image tag n
    text_label z q = rw (← ex, q)

    module _ (k : ℕ) (l : x ≡ Err k) (y : Result Span ℕ) (ey : y ≡ seek_in n (image_texts tag image)) where
      pub text_image : (z : Span) → y ≡ Ok z → Some (Image z) ≡ text_of label image tag n
      text_image z q = rw (← ex, l, ← ey, q)

      pub text_none : (j : ℕ) → y ≡ Err j → None ≡ text_of label image tag n
      text_none j q = rw (← ex, l, ← ey, q)

  module _ (a : Result (Unit {0}) Refusal) (ea : a ≡ passed (refusal_of label image)) where
    pub find_refused : (r : Refusal) → a ≡ Err r → Err r ≡ find_of label image tag n
    unfolding find_of
    find_refused r q =
        let e : passed (refusal_of label image) ≡ Err r = sym ea ∙ q in
        let k : refusal_of label image ≡ r = err_is (refusal_of label image) tt r e in
        ap Err (sym k) ∙ sym (outcome_err (refusal_of label image) (text_of label image tag n) (err_some (refusal_of label image) tt r e))

    pub find_text : (u : Unit {0}) → a ≡ Ok u → (f : Option Place) → f ≡ text_of label image tag n → Ok f ≡ find_of label image tag n
    unfolding find_of
    find_text u q f ef =
        let z : (refusal_of label image).number ≡ 0 = ok_none (refusal_of label image) tt u (sym ea ∙ q) in
        ap Ok ef ∙ sym (outcome_ok (refusal_of label image) (text_of label image tag n) z)

pub ruleset texts = (text_label, text_image, text_none)

pub ruleset finds = (find_refused, find_text)
