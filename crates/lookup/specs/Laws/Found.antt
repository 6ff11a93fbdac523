-- What a lookup tells that found a text: nothing was refused, and the label has it, or the label has too few and the image has it.
use Rattle.std.specs.Prelude.{ℕ, ◌≡◌, refl, List, Option, Some, Result, Ok, Err}
use Rattle.std.proofs.Common.{arith, ap}
use Rattle.basics.specs.Laws.Outcomes.{ok_none, ok_value}
use Rattle.metadata.specs.declared.Span.{Span}
use Rattle.metadata.specs.Texts.{texts_of, seek_in}
use Rattle.lookup.specs.declared.Place.{Place}
use Rattle.lookup.specs.declared.Place.TheVariants.{Label, Image}
use Rattle.lookup.specs.Lookup.{image_texts, or_label, refusal_of, text_of, find_of}

label_only : (z : Span) (x y : Result Span ℕ) → or_label x y ≡ Some (Label z) → x ≡ Ok z
label_only z (Ok w) y q = let k : w ≡ z = cc in ap Ok k
label_only z (Err k) (Ok w) q = let o : ◌≡◌ {A = ℕ} 0 1 = cc in absurd (omega arith)
label_only z (Err k) (Err j) q = let o : ◌≡◌ {A = ℕ} 0 1 = cc in absurd (omega arith)

image_only : (z : Span) (x y : Result Span ℕ) → or_label x y ≡ Some (Image z) → (k : ℕ) × (x ≡ Err k) × (y ≡ Ok z)
image_only z (Ok w) y q = let o : ◌≡◌ {A = ℕ} 0 1 = cc in absurd (omega arith)
image_only z (Err k) (Ok w) q = let m : w ≡ z = cc in (k, refl, ap Ok m)
image_only z (Err k) (Err j) q = let o : ◌≡◌ {A = ℕ} 0 1 = cc in absurd (omega arith)

module _ (label image : List ℕ) (tag n : ℕ) where
  abbrev accepted : Type 0
  accepted = (refusal_of label image).number ≡ 0

  told : (f : Option Place) → find_of label image tag n ≡ Ok f → accepted × (text_of label image tag n ≡ f)
  unfolding find_of
  told f q = (ok_none (refusal_of label image) (text_of label image tag n) f q, ok_value (refusal_of label image) (text_of label image tag n) f q)

  pub record LabelHas (x : Span) : Type 0 where
    pub passed : accepted
    pub found : seek_in n (texts_of tag label) ≡ Ok x

  pub record ImageHas (x : Span) : Type 0 where
    pub passed : accepted
    pub left : ℕ
    pub fewer : seek_in n (texts_of tag label) ≡ Err left
    pub found : seek_in n (image_texts tag image) ≡ Ok x

  pub label_has : (x : Span) → find_of label image tag n ≡ Ok (Some (Label x)) → LabelHas x
  label_has x q =
      let t = told (Some (Label x)) q in
      record { passed = t.0; found = label_only x _ _ t.1 }

  pub image_has : (x : Span) → find_of label image tag n ≡ Ok (Some (Image x)) → ImageHas x
  image_has x q =
      let t = told (Some (Image x)) q in
      let i = image_only x _ _ t.1 in
      record { passed = t.0; left = i.0; fewer = i.1; found = i.2 }
