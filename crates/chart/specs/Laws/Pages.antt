-- A paragraph is paged exactly when a flip entry that acts is one that changes it.
use Rattle.std.specs.Prelude.{ℕ, ◌≤◌, ◌<◌, ◌+◌, ◌*◌, ◌/◌, ◌%◌, Bool, true, List, ◌↔◌, ◌≡◌, leb}
use Rattle.std.proofs.Common.{sym, ap, ◌∙◌}
use native.Mathlib.Omega.{arith}
use borrow.Author.Tests.{le-leb, leb-true}
use Rattle.basics.specs.Counts.{any}
use Rattle.basics.specs.Laws.Counts.{Place, any_at, any_of}
use Rattle.basics.specs.Laws.Tests.{and_left, and_right, and_true}
use Rattle.places.specs.Limits.{chapter_pages, chapter_paragraphs}
use Rattle.switches.specs.Flips.{acts, first_k, flip_from, flip_size}
use Rattle.switches.specs.Laws.Flips.{first_small}
use Rattle.chart.specs.Chart.{has_pages, is_paged}

-- flip entry `number` acts, and changes paragraph p (02, W-212)
pub record Turns (flips : List ℕ) (p : ℕ) : Type 0 where
  pub number : ℕ
  pub acting : acts flips number ≡ true
  pub from : flip_from number ≤ p
  pub below : p < flip_from number + flip_size number

module _ (flips : List ℕ) (p : ℕ) where
  abbrev x : ℕ
  x = p / chapter_paragraphs

  abbrev k : ℕ
  k = p % chapter_paragraphs

  abbrev entry : ℕ → Bool
  entry y = acts flips (chapter_pages * x + y)

  turner : is_paged flips p ≡ true → Turns flips p
  unfolding is_paged has_pages
  turner e =
      let q : Place chapter_pages entry = any_at chapter_pages entry (and_right (leb (first_k x) k) (any chapter_pages entry) e) in
      let f : first_k x ≤ k = leb-true (first_k x) k (and_left (leb (first_k x) k) (any chapter_pages entry) e) in
      let n : (chapter_pages * x + q.at) / chapter_pages ≡ x = omega (arith, q.below) in
      record { number = chapter_pages * x + q.at; acting = q.passes; from = rw n (omega arith); below = rw n (omega (arith, first_small x)) }

  turned : Turns flips p → is_paged flips p ≡ true
  unfolding is_paged has_pages
  turned t =
      let f : first_k (t.number / chapter_pages) ≤ 8 = first_small (t.number / chapter_pages) in
      let n : t.number / chapter_pages ≡ x = omega (arith, f, t.from, t.below) in
      let y : t.number ≡ chapter_pages * x + t.number % chapter_pages = omega arith in
      let g : flip_from t.number ≡ chapter_paragraphs * x + first_k x = rw n in
      and_true (leb (first_k x) k) (any chapter_pages entry) (le-leb (first_k x) k (omega (arith, t.from)))
      (any_of chapter_pages entry (t.number % chapter_pages) (omega arith) (ap (acts flips) (sym y) ∙ t.acting))

  pub paged_exactly : (is_paged flips p ≡ true) ↔ Turns flips p
  paged_exactly = (turner, turned)
