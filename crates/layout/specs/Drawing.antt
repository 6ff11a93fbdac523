-- What laying out answers, and the words that it leaves in a RAM (01, How an image is laid out by the builder).
use Rattle.std.specs.Prelude.{ℕ, ◌/◌, ◌*◌, ◌+◌, ◌%◌, min, List, length}
use Rattle.basics.specs.Tables.{table}
use Rattle.basics.specs.Lists.{laid}
use Rattle.places.specs.Places.{console}
use Rattle.places.specs.Limits.{locutus_paragraphs, page_paragraphs, paragraph_size}
use Rattle.lines.specs.declared.Line.{Line}
use Rattle.layout.specs.declared.Drawing.{Drawing}
use Rattle.layout.specs.Layout.{mapping_table, permissions_table, flip_table, pages, covered, written_of, line_held, paragraph_held}

-- the three tables, the pages, and a mark for each covered Locutus paragraph
unfoldable pub drawing_of : List Line → Drawing
drawing_of lines =
    record {
      mapping = mapping_table lines;
      permissions = permissions_table lines;
      flips = flip_table lines;
      pages = pages lines;
      marks = table locutus_paragraphs (covered lines);
    }

-- the word that Locutus word i is to hold
abbrev pub word_at : List ℕ → List Line → ℕ → ℕ
word_at bin lines i =
    written_of bin (line_held lines (i / paragraph_size)) (console (paragraph_size * paragraph_held lines (i / paragraph_size) + i % paragraph_size))

-- a RAM with the words of all pages from its first word on, as many whole paragraphs as it has room for
unfoldable pub ram_of : List ℕ → List Line → List ℕ → List ℕ
ram_of bin lines ram =
    laid 0 (paragraph_size * min (page_paragraphs * pages lines) (length ram / paragraph_size)) (word_at bin lines) ram
