-- A chapter that shows a page anywhere shows it at its last paragraph, so that this one tells whether the chapter is paged.
use Rattle.std.specs.Prelude.{ℕ, ◌≤◌, ◌+◌, ◌*◌, ◌/◌, ◌%◌, Bool, true, ◌&&◌, ◌||◌, List, ◌≡◌, leb, get_or}
use Rattle.std.proofs.Math.Bool.{false}
use Rattle.std.proofs.Common.{ap, ◌∙◌}
use native.Mathlib.Omega.{arith}
use Rattle.std.proofs.Math.Dec.{ltb, eqb}
use borrow.Author.Tests.{le-leb, leb-true, le-ltb}
use Rattle.basics.specs.Laws.Tests.{and_right, or_false_left, or_false_right, same_test}
use Rattle.places.specs.Limits.{chapter_pages, chapter_paragraphs, paragraph_size}
use Rattle.switches.specs.Flips.{PFE, first_k}
use Rattle.switches.specs.Laws.Flips.{first_small}
use Rattle.jlp.specs.Window.{in_window, window_start, window_end}
use Rattle.jlp.specs.Laws.Window.{between_low, between_high, between_in}
use Rattle.cart.specs.declared.Cartridge.{Cartridge}
use Rattle.cart.specs.Reads.{silent}
use Rattle.chart.specs.declared.Shown.TheVariants.{Paged}
use Rattle.chart.specs.Chart.{start_of, has_pages, is_paged, shown_at}
use Rattle.chart.specs.Laws.Pages.{Turns, paged_exactly}
use Rattle.chart.specs.Laws.Shown.{pages_exactly}

-- the last paragraph of paragraph p's chapter
abbrev pub last_of : ℕ → ℕ
last_of p = chapter_paragraphs * (p / chapter_paragraphs) + 15

module _ (p : ℕ) where
  start_chapter : last_of p * paragraph_size / 0x1000 ≡ p * paragraph_size / 0x1000
  start_chapter = omega arith

  last_loud : 2 ≤ p / chapter_paragraphs → silent (start_of p) ≡ false → silent (start_of (last_of p)) ≡ false
  unfolding silent
  last_loud h q =
      let low : ltb (last_of p * paragraph_size) 0x500 ≡ false = le-ltb (last_of p * paragraph_size) 0x500 (omega arith) in
      let one : eqb (p * paragraph_size / 0x1000) 1 ≡ false = or_false_right (ltb (p * paragraph_size) 0x500) _ (or_false_left _ (eqb (p * paragraph_size / 0x1000) 3) q) in
      let three : eqb (p * paragraph_size / 0x1000) 3 ≡ false = or_false_right (ltb (p * paragraph_size) 0x500 || eqb (p * paragraph_size / 0x1000) 1) _ q in
      rw (low, start_chapter, one, three)

  last_window : in_window (start_of (last_of p)) ≡ in_window (start_of p)
  last_window =
      same_test _ _
      (λ e. between_in window_start window_end (start_of p).0 (omega (arith, between_low _ _ _ e)) (omega (arith, between_high _ _ _ e)))
      (λ e. between_in window_start window_end (start_of (last_of p)).0 (omega (arith, between_low _ _ _ e)) (omega (arith, between_high _ _ _ e)))

  last_paged : (flips : List ℕ) → is_paged flips p ≡ true → is_paged flips (last_of p) ≡ true
  unfolding is_paged
  last_paged flips e =
      let x : last_of p / chapter_paragraphs ≡ p / chapter_paragraphs = omega arith in
      let k : last_of p % chapter_paragraphs ≡ 15 = omega arith in
      rw (x, k, le-leb (first_k (p / chapter_paragraphs)) 15 (omega (arith, first_small (p / chapter_paragraphs))))
      (and_right (leb (first_k (p / chapter_paragraphs)) (p % chapter_paragraphs)) (has_pages flips (p / chapter_paragraphs)) e)

  -- entries act in chapters 2 to 15
  late : (flips : List ℕ) → Turns flips p → 2 ≤ p / chapter_paragraphs
  late flips t =
      let f : first_k (t.number / chapter_pages) ≤ 8 = first_small (t.number / chapter_pages) in
      let c : 2 ≤ t.number / chapter_pages = leb-true 2 (t.number / chapter_pages) (and_right (PFE (get_or flips t.number 0)) _ t.acting) in
      omega (arith, t.from)

  pub last_shows : (c : Cartridge) → shown_at c p ≡ Paged → shown_at c (last_of p) ≡ Paged
  last_shows c e =
      let h : (silent (start_of p) ≡ false) × (c.jlp.on && in_window (start_of p) ≡ false) × Turns c.flips p = (pages_exactly c p).0 e in
      (pages_exactly c (last_of p)).1 (
        last_loud (late c.flips h.2) h.0,
        ap (λ (b : Bool). c.jlp.on && b) last_window ∙ h.1,
        (paged_exactly c.flips (last_of p)).0 (last_paged c.flips ((paged_exactly c.flips p).1 h.2)),
      )
