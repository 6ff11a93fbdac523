-- What the layout asks of the lines, as the code keeps it: the line of each cell, and what follows from it.
use Rattle.std.specs.Prelude.{ℕ, ◌+◌, ◌*◌, ◌-◌, ◌/◌, ◌%◌, ◌<◌, ◌≤◌, suc, List, Bool, false, cond, ◌&&◌, not, ◌≡◌, length, get_or, eqb, ltb}
use Rattle.std.proofs.Math.Option.{Option, none, some}
use Rattle.basics.specs.Counts.{count, nth, any}
use Rattle.basics.specs.Lists.{laid}
use Rattle.basics.specs.Tables.{table}
use Rattle.places.specs.Limits.{chapters, chapter_paragraphs, chapter_pages, paragraphs, paragraph_size, layers, slots, cells}
use Rattle.lines.specs.declared.Line.{Line}
use Rattle.lines.specs.declared.Entry.{Entry}
use Rattle.lines.specs.declared.Entry.TheVariants.{Rom}
use Rattle.lines.specs.Lines.{layer, holds}
use Rattle.lines.specs.Kinds.{kind_of}
use Rattle.rules.specs.Chapters.{line_in, paged, kind_at, under, throughout}
use Rattle.layout.specs.declared.found.Survey.{Survey}
use Rattle.layout.specs.declared.pages.Numbered.{Numbered}
use Rattle.layout.specs.Layout.{used, pages, slot_of_page}

-- the line of a number among the lines, from 1 on; 0 is no line's
abbrev pub no_line : Line
no_line = record { source = 0; entry = Rom (record { 0 = 0 }) (record { 0 = 0 }) (record { 0 = 0 }) }

abbrev pub line_of : List Line → ℕ → Option Line
line_of lines n = cond (eqb n 0) none (some (get_or lines (n - 1) no_line))

-- A cell is a paragraph of a layer, layer after layer. One that is free takes the number of a line that holds it.
abbrev pub takes : Bool → ℕ → ℕ → ℕ
takes held number o = cond (held && eqb o 0) number o

-- the cells after a line with its number
unfoldable pub claimed : Entry → ℕ → List ℕ → List ℕ
claimed e number o =
    cond (ltb (layer e) layers)
    (laid (paragraphs * layer e) paragraphs (λ p. takes (holds e (paragraph_size * p)) number (get_or o (paragraphs * layer e + p) 0)) o)
    o

-- numbers are those of lines
pub record Few (all : List Line) (o : List ℕ) : Type 0 where
  pub each : (i : ℕ) → i < cells → get_or o i 0 ≤ length all

-- the cells that have, of all lines, the numbers of those among the first of them
pub record Cells (all ls : List Line) (o : List ℕ) : Type 0 where
  pub long : length o ≡ cells
  pub few : Few all o
  pub line : (i : ℕ) → i < cells → line_of all (get_or o i 0) ≡ line_in ls (i / paragraphs) (i % paragraphs)

-- layer t of chapter x is in use; chapter x has PAGE lines; the kinds of plain paragraphs, and plain ROM throughout: each by tables
unfoldable pub used_in : List ℕ → ℕ → ℕ → Bool
used_in o x t = any chapter_paragraphs (λ k. not (eqb (get_or o (paragraphs * t + (chapter_paragraphs * x + k)) 0) 0))

unfoldable pub paged_in : List Bool → ℕ → Bool
paged_in u x = any chapter_pages (λ y. get_or u (layers * x + suc y) false)

abbrev pub kind_in : List Line → List ℕ → ℕ → ℕ
kind_in all o p = kind_of (line_of all (get_or o p 0))

unfoldable pub under_in : List ℕ → ℕ → Bool
under_in kinds x = throughout x (λ p. eqb (get_or kinds p 0) 1)

-- pages by number: the page of each slot, the slot of each page, and how many pages there are
abbrev pub is_used : List Bool → ℕ → Bool
is_used u s = get_or u s false

unfoldable pub numbered_of : List Bool → Numbered
numbered_of u =
    record {
      page = table slots (count (is_used u));
      slot = table slots (nth (is_used u) slots);
      pages = count (is_used u) slots;
    }

-- a survey of some lines, where `all` are numbered
pub record Surveyed (all ls : List Line) (s : Survey) : Type 0 where
  pub cells_are : Cells all ls s.cells
  pub kinds_are : s.kinds ≡ table paragraphs (kind_at ls)
  pub used_are : s.used ≡ table slots (used ls)
  pub paged_are : s.paged ≡ table chapters (paged ls)
  pub under_are : s.under ≡ table chapters (under ls)
  pub page_are : s.page ≡ table slots (count (used ls))
  pub slot_are : s.slot ≡ table slots (slot_of_page ls)
  pub pages_are : s.pages ≡ pages ls
