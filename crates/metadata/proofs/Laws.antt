-- One law for each return, its premises as the code's tests and calls give them; and the two loops over a payload's sub-records.
use Prim.Native.Nat.{ℕ, suc, ◌+◌, ◌-◌, ◌<◌, ◌≤◌}
use mathlib.Core.Path.{◌≡◌, refl, sym, ap, ◌∙◌}
use mathlib.Core.List.{List, ◌∷◌}
use mathlib.Core.Bool.{Bool, true, false}
use native.Mathlib.Omega.{arith}
use lib.ListN.{length, get_or}
use lib.Dec.{leb, ltb}
use Rattle.std.specs.Int.{cast_signed, cast_unsigned, w8}
use Rattle.std.proofs.lemmas.Int.{of_z-to_z, to_z_pos}
use Rattle.std.proofs.Math.Facts.{to_z-neg}
use Rattle.metadata.specs.Dates.{hours_of}
use borrow.Author.Tests.{eq-eqb, ne_eqb, lt-ltb, le-ltb, le-leb, lt-leb, leb-true, leb-false, ltb-true, ltb-false}
use Rattle.basics.specs.Laws.Tests.{cases}
use Rattle.metadata.specs.declared.Stands.{Stands}
use Rattle.metadata.specs.declared.Stands.TheVariants.{End, Cut, Text}
use Rattle.std.specs.Prelude.{ℤ, Result, Ok, Err, is_ok}
use Rattle.metadata.specs.declared.Span.{Span}
use Rattle.metadata.specs.Records.{tag_at, end_at, span_at, whole_at, stands_at, starts_from, starts, is_cut}
use Rattle.metadata.specs.Texts.{last_tag, is_single, texts_in, texts_of, seek_in, given_twice}
use Rattle.metadata.specs.Laws.Walk.{whole_ends, past_end, Turn, walk_on, walk_stops, Reached, reach_start, reach_more, cut_by}
use Rattle.metadata.specs.Laws.Texts.{texts_unnamed, seek_zero, seek_none, seek_first, seek_next, second}

-- what stands at p
module _ (s : List ℕ) (p : ℕ) where
  pub stands_end : length s ≤ p → End ≡ stands_at s p
  unfolding stands_at
  stands_end h = rw (le-leb _ _ h)

  cut_here : p < length s → length s < end_at s p → Cut ≡ stands_at s p
  unfolding stands_at whole_at
  cut_here h k = rw (lt-leb _ _ h, lt-leb _ _ k)

  pub stands_short : p < length s → length s - p < 2 → Cut ≡ stands_at s p
  stands_short h k = cut_here h (omega arith)

  module _ (z : ℕ) (e : z ≡ get_or s (p + 1) 0) (h : 2 ≤ length s - p) where
    pub stands_cut : length s - (p + 2) < z → Cut ≡ stands_at s p
    stands_cut k = cut_here (omega arith) (omega arith)

    pub stands_text : z ≤ length s - (p + 2) → Text (get_or s p 0) (record { from = p + 2; to = p + 2 + z }) ≡ stands_at s p
    unfolding stands_at whole_at
    stands_text k = let w : end_at s p ≤ length s = omega arith in rw (e, lt-leb (length s) p (omega arith), le-leb _ _ w)

pub ruleset records = (stands_end, stands_short, stands_cut, stands_text)

-- what stands there, by the cases of the answer
stands_cases : {A : Type 0} (s : List ℕ) (p : ℕ) (x : Stands) → x ≡ stands_at s p
    → (length s ≤ p → x ≡ End → A) → (p < length s → whole_at s p ≡ false → x ≡ Cut → A) → (whole_at s p ≡ true → x ≡ Text (tag_at s p) (span_at s p) → A) → A
unfolding stands_at
stands_cases s p x e end cut text =
    cases (leb (length s) p) (λ t. end (leb-true _ _ t) (rw t at e))
    (λ t. cases (whole_at s p) (λ w. text w (rw (t, w) at e)) (λ w. cut (leb-false _ _ t) w (rw (t, w) at e)))

module _ (s : List ℕ) (p : ℕ) (x : Stands) (ex : x ≡ stands_at s p) where
  pub ended : x ≡ End → length s ≤ p
  ended e =
      stands_cases s p x ex (λ h f. h) (λ h w f. let z : ◌≡◌ {A = ℕ} 0 1 = cc in absurd (omega arith))
      (λ w f. let z : ◌≡◌ {A = ℕ} 0 1 = cc in absurd (omega arith))

  pub cut_off : x ≡ Cut → (p < length s) × (whole_at s p ≡ false)
  cut_off e =
      stands_cases s p x ex (λ h f. let z : ◌≡◌ {A = ℕ} 0 1 = cc in absurd (omega arith)) (λ h w f. (h, w))
      (λ w f. let z : ◌≡◌ {A = ℕ} 0 1 = cc in absurd (omega arith))

  pub record Read (t : ℕ) (y : Span) : Type 0 where
    pub whole : whole_at s p ≡ true
    pub tag : t ≡ tag_at s p
    pub text : y ≡ span_at s p

  pub read : (t : ℕ) (y : Span) → x ≡ Text t y → Read t y
  read t y q =
      stands_cases s p x ex (λ h f. let z : ◌≡◌ {A = ℕ} 0 1 = cc in absurd (omega arith))
      (λ h w f. let z : ◌≡◌ {A = ℕ} 0 1 = cc in absurd (omega arith))
      (λ w f.
      let i : t ≡ tag_at s p = cc in
      let j : y ≡ span_at s p = cc in
      record { whole = w; tag = i; text = j })

  -- the next sub-record stands further on
  pub further : (t : ℕ) (y : Span) → x ≡ Text t y → length s - y.to < length s - p
  further t y q =
      let d : Read t y = read t y q in
      let h : end_at s p ≤ length s = whole_ends s p d.whole in
      omega (arith, ap (λ (z : Span). z.to) d.text)

  -- the check for a cut
  module _ (c : Reached s p) where
    pub check_more : (t : ℕ) (y : Span) → x ≡ Text t y → Reached s y.to
    check_more t y q = let d : Read t y = read t y q in rw d.text (reach_more s p c d.whole)

    pub check_end : x ≡ End → false ≡ is_cut s
    check_end q = let h : length s ≤ p = ended q in sym (cut_by s p c (past_end s p h) ∙ le-ltb _ _ h)

    pub check_cut : x ≡ Cut → true ≡ is_cut s
    check_cut q = let h : (p < length s) × (whole_at s p ≡ false) = cut_off q in sym (cut_by s p c h.1 ∙ lt-ltb _ _ h.0)

pub ruleset checks = (reach_start, further, check_more, check_end, check_cut)

-- the search: what is left of the sub-records, with so many texts to pass, answers what all of them do
pub record Seeking (s : List ℕ) (tag n p left : ℕ) : Type 0 where
  pub fuel : ℕ
  pub enough : length s ≤ p + fuel
  pub named : tag ≤ last_tag
  pub some : 0 < left
  pub same : seek_in left (texts_in tag s (starts_from fuel s p)) ≡ seek_in n (texts_of tag s)

pub seek_nothing : (s : List ℕ) (tag n : ℕ) → n ≡ 0 → Err n ≡ seek_in n (texts_of tag s)
seek_nothing s tag n e = rw e (sym (seek_zero (texts_of tag s)))

module _ (s : List ℕ) (tag n : ℕ) where
  pub seek_unnamed : last_tag < tag → Err n ≡ seek_in n (texts_of tag s)
  seek_unnamed h = rw (texts_unnamed tag s (starts s) h) (sym (seek_none n))

  pub seek_start : (n ≡ 0 → ⊥) → tag ≤ last_tag → Seeking s tag n 0 n
  unfolding starts
  seek_start d h = record { fuel = length s; enough = omega arith; named = h; some = omega arith; same = refl }

  module _ (p left : ℕ) (x : Stands) (ex : x ≡ stands_at s p) (c : Seeking s tag n p left) where
    over : whole_at s p ≡ false → Err left ≡ seek_in n (texts_of tag s)
    unfolding texts_in
    over w = sym (seek_none left) ∙ (rw (walk_stops c.fuel s p w) at c.same)

    pub seek_over : ((t : ℕ) (y : Span) → x ≡ Text t y → ⊥) → Err left ≡ seek_in n (texts_of tag s)
    seek_over d =
        stands_cases s p x ex (λ h q. over (past_end s p h)) (λ h w q. over w) (λ w q. absurd (d (tag_at s p) (span_at s p) q))

    module _ (w : whole_at s p ≡ true) where
      turn : Turn c.fuel s p
      turn = walk_on c.fuel s p c.enough w

      -- a sub-record with the tag, and one with another
      hit : tag_at s p ≡ tag → seek_in left (span_at s p ∷ texts_in tag s (starts_from turn.rest s (end_at s p))) ≡ seek_in n (texts_of tag s)
      unfolding texts_in
      hit h = rw (turn.is, le-leb _ _ c.named, eq-eqb _ _ h) at c.same

      miss : (tag_at s p ≡ tag → ⊥) → seek_in left (texts_in tag s (starts_from turn.rest s (end_at s p))) ≡ seek_in n (texts_of tag s)
      unfolding texts_in
      miss d = rw (turn.is, le-leb _ _ c.named, ne_eqb _ _ d) at c.same

    module _ (t : ℕ) (y : Span) (q : x ≡ Text t y) where
      got : Read s p x ex t y
      got = read s p x ex t y q

      pub seek_found : t ≡ tag → left - 1 ≡ 0 → Ok y ≡ seek_in n (texts_of tag s)
      seek_found h z =
          let o : left ≡ 1 = omega (arith, c.some) in
          ap Ok got.text ∙ sym (seek_first left (span_at s p) _ o) ∙ hit got.whole (sym got.tag ∙ h)

      pub seek_passed : t ≡ tag → (left - 1 ≡ 0 → ⊥) → Seeking s tag n y.to (left - 1)
      seek_passed h z =
          let o : 1 < left = omega arith in
          let w : whole_at s p ≡ true = got.whole in
          rw got.text
          (record {
            fuel = (turn w).rest;
            enough = (turn w).enough;
            named = c.named;
            some = omega arith;
            same = sym (seek_next left (span_at s p) _ o) ∙ hit w (sym got.tag ∙ h);
          })

      pub seek_other : (t ≡ tag → ⊥) → Seeking s tag n y.to left
      seek_other h =
          let w : whole_at s p ≡ true = got.whole in
          rw got.text
          (record { fuel = (turn w).rest; enough = (turn w).enough; named = c.named; some = c.some; same = miss w (λ e. h (got.tag ∙ e)) })

pub ruleset seeks = (further, seek_nothing, seek_unnamed, seek_start, seek_over, seek_found, seek_passed, seek_other)

-- given twice: by the second text
pub twice_second : (s : List ℕ) (tag : ℕ) (b : Bool) → b ≡ is_single tag → b ≡ true → (x : Result Span ℕ) → x ≡ seek_in 2 (texts_of tag s) → is_ok x ≡ given_twice tag (texts_of tag s)
twice_second s tag b eb h x ex = ap is_ok ex ∙ second (texts_of tag s) ∙ rw (← eb, h)

-- a byte as a signed number
pub hours_signed : (b : ℕ) (z : ℤ) → b < 256 → z ≡ cast_signed w8 b → cast_signed w8 (cast_unsigned w8 z) ≡ hours_of b
hours_signed b z h e =
    let f : cast_signed w8 (cast_unsigned w8 z) ≡ cast_signed w8 b = ap (cast_signed w8) (ap (cast_unsigned w8) e ∙ of_z-to_z w8 b h) in
    cases (ltb b 128)
    (λ t. let l : b < 128 = ltb-true _ _ t in f ∙ to_z_pos w8 b l ∙ rw t)
    (λ t.
    let l : 128 ≤ b = ltb-false _ _ t in
    let m : b ≡ 256 - suc (255 - b) = omega arith in
    f ∙ ap (cast_signed w8) m ∙ to_z-neg w8 (255 - b) (omega arith) ∙ rw t)
