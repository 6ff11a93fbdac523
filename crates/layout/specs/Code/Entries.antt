-- The entries of the three tables, and the marks, by a survey.
use Rattle.std.specs.Prelude.{ℕ, ◌+◌, ◌*◌, ◌/◌, ◌%◌, List, Bool, false, cond, ◌&&◌, not, get_or, eqb, leb, ltb, Option, Some, None}
use Rattle.basics.specs.Tables.{table}
use Rattle.places.specs.Limits.{chapters, chapter_paragraphs, chapter_pages, flip_entries, paragraphs, layers, page_paragraphs, locutus_paragraphs}
use Rattle.switches.specs.Flips.{first_k, flip_mapping, flip_permissions}
use Rattle.layout.specs.declared.found.Survey.{Survey}
use Rattle.layout.specs.declared.Drawing.{Drawing}
use Rattle.layout.specs.Code.Survey.{is_used}

-- the page that answers in chapter x while page y is asked for
abbrev pub answer_in : Survey → ℕ → ℕ → Option ℕ
answer_in s x y =
    cond (is_used s.used (layers * x + (y + 1))) (Some (get_or s.page (layers * x + (y + 1)) 0))
    (cond (get_or s.under x false) (Some (get_or s.page (layers * x) 0)) None)

-- the rows of answering pages: one for each chapter, with an answer for each page that may be asked for
unfoldable pub row_in : Survey → ℕ → List (Option ℕ)
row_in s x = table chapter_pages (answer_in s x)

abbrev pub rows_in : Survey → List (List (Option ℕ))
rows_in s = table chapters (row_in s)

-- the flip entry of an answer, and flip entry n
abbrev pub entry_of : Option ℕ → ℕ
entry_of None = 8
entry_of (Some n) = page_paragraphs * n + 9

abbrev pub flip_in : Survey → ℕ → ℕ
flip_in s n = cond (get_or s.paged (n / chapter_pages) false) (entry_of (answer_in s (n / chapter_pages) (n % chapter_pages))) 0

unfoldable pub flips_by : Survey → List ℕ
flips_by s = table flip_entries (flip_in s)

-- the two tables of a paragraph
abbrev pub flippable_in : Survey → ℕ → Bool
flippable_in s p = get_or s.paged (p / chapter_paragraphs) false && leb (first_k (p / chapter_paragraphs)) (p % chapter_paragraphs)

abbrev pub mapping_in : Survey → List ℕ → ℕ → ℕ
mapping_in s flips p =
    cond (flippable_in s p) (flip_mapping (get_or flips (chapter_pages * (p / chapter_paragraphs)) 0) (p % chapter_paragraphs))
    (cond (eqb (get_or s.kinds p 0) 0) 0 (page_paragraphs * get_or s.page (layers * (p / chapter_paragraphs)) 0 + p % chapter_paragraphs))

abbrev pub permissions_in : Survey → List ℕ → ℕ → ℕ
permissions_in s flips p =
    cond (flippable_in s p) (flip_permissions (get_or flips (chapter_pages * (p / chapter_paragraphs)) 0) (p % chapter_paragraphs)) (get_or s.kinds p 0)

-- the slot of the page that Locutus paragraph p lies on, the console paragraph that it holds, and the number of its line
abbrev pub slot_in : Survey → ℕ → ℕ
slot_in s p = get_or s.slot (p / page_paragraphs) 0

abbrev pub paragraph_in : Survey → ℕ → ℕ
paragraph_in s p = chapter_paragraphs * (slot_in s p / layers) + p % page_paragraphs

unfoldable pub held_in : Survey → ℕ → ℕ
held_in s p =
    cond (ltb (p / page_paragraphs) s.pages) (get_or s.cells (paragraphs * (slot_in s p % layers) + paragraph_in s p) 0) 0

abbrev pub mark_in : Survey → ℕ → Bool
mark_in s p = not (eqb (held_in s p) 0)

-- the drawing by a survey
unfoldable pub drawn_by : Survey → Drawing
drawn_by s =
    record {
      mapping = table paragraphs (mapping_in s (flips_by s));
      permissions = table paragraphs (permissions_in s (flips_by s));
      flips = flips_by s;
      pages = s.pages;
      marks = table locutus_paragraphs (mark_in s);
    }
