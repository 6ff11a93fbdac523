-- Covered paragraphs: they lie in the pages, and each has its words.
use Rattle.std.specs.Prelude.{ℕ, ◌<◌, ◌*◌, ◌/◌, ◌+◌, ◌≤◌, List, ◌≡◌, refl, true, ltb, length}
use Rattle.std.proofs.Common.{sym, ◌∙◌, arith, ltb-true}
use Rattle.basics.specs.Laws.Tests.{cases, true_is_not_false}
use Rattle.basics.specs.Laws.Tables.{length_table}
use Rattle.places.specs.Places.{console}
use Rattle.places.specs.Limits.{paragraph_size, page_paragraphs}
use Rattle.lines.specs.declared.Line.{Line}
use Rattle.layout.specs.Layout.{covered, pages, line_held, needed, paragraph_words, written_of, paragraph_held}

pub covered_below : (lines : List Line) (p : ℕ) → covered lines p ≡ true → p < page_paragraphs * pages lines
unfolding line_held
covered_below lines p e =
    cases (ltb (p / page_paragraphs) (pages lines)) (λ h. omega (arith, ltb-true (p / page_paragraphs) (pages lines) h)) (λ h. true_is_not_false (sym (rw h) ∙ e) refl)

pub covered_inside : (lines : List Line) (p : ℕ) → covered lines p ≡ true → paragraph_size * p + paragraph_size ≤ needed lines
covered_inside lines p e = omega (arith, covered_below lines p e)

pub length_words : (bin : List ℕ) (lines : List Line) (p : ℕ) → length (paragraph_words bin lines p) ≡ paragraph_size
unfolding paragraph_words
length_words bin lines p = length_table paragraph_size (λ i. written_of bin (line_held lines p) (console (paragraph_size * paragraph_held lines p + i)))
