-- What is drawn of the canonical lines of a plan tells whether the plan fits.
use Rattle.std.specs.Prelude.{◌*◌, ◌/◌, ◌≤◌, ℕ, ◌≡◌, refl, Bool, ◌&&◌, ◌||◌, true, leb, get_or}
use mathlib.Core.List.{List}
use Rattle.std.proofs.Common.{◌∙◌, sym, arith, ext_get_or, get_or-take, length-take-le}
use Rattle.std.proofs.Math.Path.{ap}
use Rattle.std.proofs.Math.Bool.{false, not}
use Rattle.std.proofs.Math.ListN.{length, take}
use borrow.Author.Tests.{leb-true}
use Rattle.basics.specs.Laws.Counts.{all_same}
use Rattle.basics.specs.Laws.Tables.{get_d_table, length_table}
use Rattle.basics.specs.Laws.Tests.{and_false, cases}
use Rattle.basics.specs.Tables.{table}
use Rattle.places.specs.Limits.{lent_limit, line_limit, locutus_paragraphs, page_size}
use Rattle.tables.specs.Tables.{Tables, tables}
use Rattle.lines.specs.declared.Line.{Line}
use Rattle.layout.specs.Drawing.{drawing_of}
use Rattle.plan.specs.Fewest.{fewest}
use Rattle.plan.specs.Image.{covered_of, pages_of, ram_covered_of}
use Rattle.plan.specs.Plan.{Plan}
use Rattle.plan.specs.Valid.{Valid}
use Rattle.behind.proofs.Theorems.Behind.{behind_valid}
use Rattle.canon.proofs.Theorems.Good.{length_lines}
use Rattle.canon.specs.Laws.Lines.{canonical_lines}
use Rattle.canon.specs.Made.{blank_in}
use Rattle.ledger.specs.Code.Lists.{listing_of, no_line, shown}
use Rattle.ledger.specs.Held.{plan_in, words_in}
use Rattle.ledger.specs.declared.Listing.{Listing}
use Rattle.retrace.specs.Code.Named.{named_in, word_named}
use Rattle.retrace.specs.Code.Shown.{marked_in, plan_from, sketch_of}
use Rattle.retrace.specs.Laws.Behind.{behind_any}
use Rattle.ledger.specs.declared.Sketch.{Sketch}
use Rattle.rebuild.specs.Code.Retraced.{drawing_fits, listing_fits, marks_fit, plan_named, retraced_of}
use Rattle.rebuild.specs.Fits.{fits, names_fit, ram_fits, tables_fit}
use Rattle.rebuild.specs.Laws.Drawn.{canonical_drawing}
use Rattle.rebuild.specs.Laws.Same.{in_arrays, listing_same, ram_same}
use Rattle.rebuild.specs.declared.Retraced.{Retraced}

-- lines that are not too many are all shown
pub take_shown : (ls : List Line) → length ls ≤ line_limit → take (length ls) (shown ls) ≡ ls
unfolding shown
take_shown ls h =
    let t : List Line = table line_limit (λ i. get_or ls i no_line) in
    let l : length (take (length ls) t) ≡ length ls = length-take-le (length ls) t (omega (arith, length_table line_limit (λ i. get_or ls i no_line))) in
    ext_get_or no_line (take (length ls) t) ls l
    (λ i b. get_or-take (length ls) t i no_line (omega arith) ∙ get_d_table no_line line_limit (λ j. get_or ls j no_line) i (omega arith))

-- the drawing of a plan
module _ (q : Plan) (v : Valid q) (t : Tables) (named : ℕ → Bool) (w : ℕ → ℕ) where
  marks_fit_lem : marks_fit (table locutus_paragraphs (covered_of q)) named ≡ names_fit q named
  marks_fit_lem =
      all_same lent_limit _ _
      (λ i h. rw (get_d_table false locutus_paragraphs (covered_of q) (i / 256) (omega arith)))

  abbrev flat : Bool
  flat = tables_fit q t

  drawn : fewest q ≤ line_limit → drawing_fits (drawing_of (canonical_lines q)) t named ≡ leb (page_size * pages_of q) lent_limit && (flat && names_fit q named)
  unfolding drawing_fits
  drawn few = rw (canonical_drawing q w v few, marks_fit_lem)

  group : (a b p f n r : Bool) → (a && b) && (((p && (f && n))) && r) ≡ (a && (b && p)) && (f && (n && r))
  group true true true true n r = refl
  group true true true false n r = refl
  group true true false f n r = refl
  group true false p f n r = refl
  group false b p f n r = refl

  -- where the RAM that is asked is the plan's
  pub fits_listing : (r : Plan) → ((p : ℕ) → ram_covered_of r p ≡ ram_covered_of q p) → listing_fits (listing_of q) r t named w ≡ fits q t named w
  unfolding listing_fits listing_of fits
  fits_listing r er =
      let n : length (canonical_lines q) ≡ fewest q = length_lines q v in
      let m : ram_fits r w ≡ ram_fits q w = all_same locutus_paragraphs (λ p. not (ram_covered_of r p) || blank_in w p) (λ p. not (ram_covered_of q p) || blank_in w p) (λ p h. rw (er p)) in
      cases (leb (fewest q) line_limit)
      (λ e.
      let few : fewest q ≤ line_limit = leb-true (fewest q) line_limit e in
      let s : take (length (canonical_lines q)) (shown (canonical_lines q)) ≡ canonical_lines q = take_shown (canonical_lines q) (omega arith) in
      rw (s, drawn few, m, n) (group (leb 1 (fewest q)) (leb (fewest q) line_limit) (leb (page_size * pages_of q) lent_limit) flat (names_fit q named) (ram_fits q w)))
      (λ e. rw (n, e, and_false (leb 1 (fewest q)) false refl))

-- all that is retraced
module _ (m ps fs zs os : List ℕ) (ep : length ps ≡ 256) (ef : length fs ≡ 256) where
  abbrev t : Tables
  t = tables m ps fs

  abbrev marks : List Bool
  marks = table locutus_paragraphs (named_in zs os)

  abbrev q : Plan
  q = plan_named t zs os

  same_plan : q ≡ plan_from ps fs marks
  same_plan = behind_any ps fs (marked_in marks) m

  pub retraced_is : (ms : List Bool) (s : Sketch) (l : Listing) (f : Bool) → ms ≡ marks → s ≡ sketch_of (plan_from ps fs ms) → l ≡ listing_of (plan_in s.kinds s.pages)
      → f ≡ listing_fits l (plan_in s.kinds s.pages) t (word_named zs os) (words_in zs) → ◌≡◌ {A = Retraced} (record { sketch = s; listing = l; fits = f }) (retraced_of t zs os)
  unfolding retraced_of
  retraced_is ms s l f em es el ef' =
      let s₁ : s ≡ sketch_of q = es ∙ ap (λ (x : List Bool). sketch_of (plan_from ps fs x)) em ∙ ap sketch_of (sym same_plan) in
      let l₁ : l ≡ listing_of q = el ∙ ap (λ (x : Sketch). listing_of (plan_in x.kinds x.pages)) s₁ ∙ listing_same _ q (in_arrays t (marked_in marks) ep ef) in
      let f₁ : f ≡ fits q t (word_named zs os) (words_in zs) =
      ef' ∙ rw (l₁, s₁) (fits_listing q (behind_valid t (marked_in marks)) t (word_named zs os) (words_in zs) _ (ram_same _ q (in_arrays t (marked_in marks) ep ef))) in
      rw (s₁, l₁, f₁)
