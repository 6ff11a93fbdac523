-- Where the words of accepted lines are laid: each inside the pages, no two at one place, each in its paragraph's hunk.
use Rattle.std.specs.Prelude.{ℕ, ◌/◌, ◌*◌, ◌+◌, ◌%◌, ◌<◌, List, ◌≡◌, true, get_or}
use Rattle.std.proofs.Common.{◌∙◌, lt-ltb}
use Rattle.std.proofs.Math.Option.{some}
use native.Mathlib.Omega.{arith}
use Rattle.basics.specs.Laws.Counts.{count_more, count_one}
use Rattle.basics.specs.Laws.Nth.{nth_count}
use Rattle.basics.specs.Laws.Tables.{get_d_table}
use Rattle.places.specs.declared.Console.{Console}
use Rattle.places.specs.Places.{console}
use Rattle.places.specs.Limits.{chapter_paragraphs, chapter_size, paragraph_size, layers, slots, page_paragraphs}
use Rattle.lines.specs.declared.Line.{Line}
use Rattle.lines.specs.Typed.{All}
use Rattle.lines.specs.Lines.{line_at}
use Rattle.rules.specs.Code.Shapes.{Fine}
use Rattle.rules.specs.Laws.Rules.{found_layer, uses_of, found_below, line_in_lem}
use Rattle.layout.specs.Layout.{used, slot_of, page_of, pages, needed, slot_of_page, layer_held, paragraph_held, line_held, paragraph_words, written_by, written_of}
use Rattle.layout.specs.Laws.Layout.{place_of}

module _ {lines : List Line} (all : All Fine lines) where
  slot_used : (t a : ℕ) (l : Line) → line_at lines t a ≡ some l → used lines (slot_of (a / chapter_size) t) ≡ true
  unfolding used
  slot_used t a l e =
      let h : t < layers = omega (arith, found_layer all t a l e) in
      let p : (layers * (a / chapter_size) + t) / layers ≡ a / chapter_size = omega arith in
      let q : (layers * (a / chapter_size) + t) % layers ≡ t = omega arith in
      simp (p, q) (uses_of all t a l e)

  slot_last : (t a : ℕ) (l : Line) → line_at lines t a ≡ some l → slot_of (a / chapter_size) t < slots
  slot_last t a l e = omega (arith, found_layer all t a l e, found_below all t a l e)

  pub page_below : (t a : ℕ) (l : Line) → line_at lines t a ≡ some l → page_of lines (a / chapter_size) t < pages lines
  unfolding page_of pages
  page_below t a l e = count_more (used lines) (slot_of (a / chapter_size) t) slots (slot_used t a l e) (slot_last t a l e)

  -- every word has its place in the words needed
  pub place_below : (t : ℕ) (a : Console) (l : Line) → line_at lines t a.0 ≡ some l → (place_of lines t a).0 < needed lines
  unfolding place_of
  place_below t a l e = omega (arith, page_below t a.0 l e)

  -- and no other word has it
  pub record Same (t u : ℕ) (a b : Console) : Type 0 where
    pub layers : t ≡ u
    pub addresses : a.0 ≡ b.0

  pub place_one : (t u : ℕ) (a b : Console) (l m : Line) → line_at lines t a.0 ≡ some l → line_at lines u b.0 ≡ some m →
      (place_of lines t a).0 ≡ (place_of lines u b).0 → Same t u a b
  unfolding place_of page_of
  place_one t u a b l m e f h =
      let s : slot_of (a.0 / chapter_size) t ≡ slot_of (b.0 / chapter_size) u =
      count_one (used lines) (slot_of (a.0 / chapter_size) t) (slot_of (b.0 / chapter_size) u) (slot_used t a.0 l e) (slot_used u b.0 m f) (omega arith) in
      let i : t < layers = omega (arith, found_layer all t a.0 l e) in
      let j : u < layers = omega (arith, found_layer all u b.0 m f) in
      record { layers = omega arith; addresses = omega arith }

  -- the slot of a page in use is the one that the page is of
  pub slot_back : (t a : ℕ) (l : Line) → line_at lines t a ≡ some l → slot_of_page lines (page_of lines (a / chapter_size) t) ≡ slot_of (a / chapter_size) t
  unfolding slot_of_page page_of
  slot_back t a l e = nth_count (used lines) slots (slot_of (a / chapter_size) t) (slot_used t a l e) (slot_last t a l e)

  -- the Locutus paragraph of a word, and what its hunk has for it
  abbrev pub paragraph_of : ℕ → ℕ → ℕ
  paragraph_of t a = page_paragraphs * page_of lines (a / chapter_size) t + a / paragraph_size % chapter_paragraphs

  module _ (t a : ℕ) (l : Line) (e : line_at lines t a ≡ some l) where
    slot_there : slot_of_page lines (paragraph_of t a / page_paragraphs) ≡ slot_of (a / chapter_size) t
    slot_there = let q : paragraph_of t a / page_paragraphs ≡ page_of lines (a / chapter_size) t = omega arith in rw q (slot_back t a l e)

    layer_there : layer_held lines (paragraph_of t a) ≡ t
    layer_there = rw slot_there (let h : t < layers = omega (arith, found_layer all t a l e) in omega arith)

    paragraph_there : paragraph_held lines (paragraph_of t a) ≡ a / paragraph_size
    paragraph_there =
        rw slot_there
        (let h : t < layers = omega (arith, found_layer all t a l e) in
        let q : (layers * (a / chapter_size) + t) / layers ≡ a / chapter_size = omega arith in
        rw q (omega arith))

    pub line_there : line_held lines (paragraph_of t a) ≡ some l
    unfolding line_held
    line_there =
        let q : paragraph_of t a / page_paragraphs ≡ page_of lines (a / chapter_size) t = omega arith in
        simp (lt-ltb (paragraph_of t a / page_paragraphs) (pages lines) (omega (arith, page_below t a l e)), layer_there, paragraph_there, line_in_lem all t a, e)

    pub word_there : (bin : List ℕ) → get_or (paragraph_words bin lines (paragraph_of t a)) (a % paragraph_size) 0 ≡ written_by bin l.entry (console a)
    unfolding paragraph_words
    word_there bin =
        let q : paragraph_size * (a / paragraph_size) + a % paragraph_size ≡ a = omega arith in
        get_d_table 0 paragraph_size (λ i. written_of bin (line_held lines (paragraph_of t a)) (console (paragraph_size * paragraph_held lines (paragraph_of t a) + i))) (a % paragraph_size) (omega arith)
        ∙ simp (line_there, paragraph_there, q)
