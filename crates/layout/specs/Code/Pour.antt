-- The words of each Locutus paragraph, by a survey.
use Rattle.std.specs.Prelude.{Option, Some, None, cond, eqb, ℕ, ◌+◌, ◌*◌, ◌-◌, ◌/◌, ◌%◌, ◌<◌, ◌≤◌, min, List, ◌≡◌, length, get_or}
use Rattle.basics.specs.Lists.{laid}
use Rattle.places.specs.Places.{console}
use Rattle.places.specs.Limits.{cells, paragraph_size, page_paragraphs}
use Rattle.lines.specs.declared.Line.{Line}
use Rattle.lines.specs.Lines.{first}
use Rattle.layout.specs.declared.found.Survey.{Survey}
use Rattle.layout.specs.Layout.{written_of}
use Rattle.layout.specs.Code.Survey.{no_line, line_of}
use Rattle.layout.specs.Code.Entries.{paragraph_in, held_in}

-- the line of a number, as the code hands it out
abbrev pub numbered : List Line → ℕ → Option Line
numbered lines n = cond (eqb n 0) None (Some (get_or lines (n - 1) no_line))

-- word w of a BIN
unfoldable pub word_in : List ℕ → ℕ → ℕ
word_in bin w = get_or bin (2 * w) 0 * 256 + get_or bin (2 * w + 1) 0

-- the word that Locutus word i holds, of the line that a survey has behind its paragraph
unfoldable pub written_in : List ℕ → List Line → Survey → ℕ → ℕ
written_in bin lines s i =
    written_of bin (line_of lines (held_in s (i / paragraph_size))) (console (paragraph_size * paragraph_in s (i / paragraph_size) + i % paragraph_size))

-- each line that is held is one of the lines, and begins no later than the paragraph
pub record Begins (lines : List Line) (s : Survey) : Type 0 where
  pub few : (p : ℕ) → p < cells → held_in s p ≤ length lines
  pub start : (p : ℕ) → p < cells → (held_in s p ≡ 0 → ⊥)
      → first (get_or lines (held_in s p - 1) no_line).entry ≤ paragraph_size * paragraph_in s p

-- a RAM with as many whole paragraphs as it has room for
unfoldable pub poured_by : List ℕ → List Line → Survey → List ℕ → List ℕ
poured_by bin lines s ram =
    laid 0 (paragraph_size * min (page_paragraphs * s.pages) (length ram / paragraph_size)) (written_in bin lines s) ram
