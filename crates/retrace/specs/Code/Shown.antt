-- What a chapter's row of flip entries shows, the chapter behind it and its permissions, and the plan behind all rows, as two arrays.
use Rattle.std.specs.Prelude.{◌*◌, ◌+◌, ℕ, List, [], Bool, ◌&&◌, cond, false, not, eqb, leb, get_or}
use Rattle.basics.specs.Tables.{table}
use Rattle.places.specs.Limits.{chapter_pages, chapter_paragraphs, flip_entries, paragraphs}
use Rattle.switches.specs.Flips.{first_k}
use Rattle.tables.specs.Tables.{tables}
use Rattle.plan.specs.Plan.{Chapter, Plan, has_page, kinds}
use Rattle.behind.specs.Behind.{absent, base_behind, behind, has_entries, hidden, kind_shown}
use Rattle.retrace.specs.declared.row.Shown.{Shown}
use Rattle.ledger.specs.declared.Sketch.{Sketch}

-- flip entry y of chapter x; whether Locutus paragraph p is marked
abbrev pub row_in : List ℕ → ℕ → ℕ → ℕ
row_in flips x y = get_or flips (chapter_pages * x + y) 0

abbrev pub marked_in : List Bool → ℕ → Bool
marked_in marks p = get_or marks p false

-- what the row of chapter x shows, where its Locutus pages start at b
abbrev pub shown_at : List ℕ → List Bool → ℕ → ℕ → Shown
shown_at flips marks x b =
    record { paged = has_entries x (row_in flips x); empty = absent (row_in flips x) b; under = hidden (row_in flips x) (marked_in marks) b }

-- the chapter behind what its row shows
abbrev pub chapter_of : List ℕ → List ℕ → Shown → ℕ → Chapter
chapter_of permissions flips s x =
    record {
      kind =
          λ k.
          cond (s.paged && leb (first_k x) k) (cond s.under 1 0)
          (kind_shown (chapter_paragraphs * x + k) (get_or permissions (chapter_paragraphs * x + k) 0));
      page = λ y. s.paged && not (eqb (row_in flips x y) s.empty);
    }

-- the plan behind these permissions and flip entries, and what its rows show; the mapping tells nothing of it
abbrev pub plan_from : List ℕ → List ℕ → List Bool → Plan
plan_from permissions flips marks = behind (tables [] permissions flips) (marked_in marks)

abbrev pub shown_behind : List ℕ → List ℕ → List Bool → ℕ → Shown
shown_behind permissions flips marks x = shown_at flips marks x (base_behind (tables [] permissions flips) (marked_in marks) x)

-- a plan as two arrays
abbrev pub sketch_of : Plan → Sketch
sketch_of q = record { kinds = table paragraphs (kinds q); pages = table flip_entries (has_page q) }
