-- What the lines have in each chapter (01, What a CFG may say).
use Rattle.std.specs.Prelude.{ℕ, ◌*◌, ◌+◌, suc, Bool, ◌||◌, List, eqb, ltb}
use Rattle.std.proofs.Math.Option.{Option}
use Rattle.basics.specs.Counts.{any, all}
use Rattle.basics.specs.Options.{is_some}
use Rattle.places.specs.Limits.{paragraph_size, chapter_paragraphs, chapter_pages}
use Rattle.switches.specs.Flips.{first_k}
use Rattle.lines.specs.declared.Line.{Line}
use Rattle.lines.specs.Lines.{line_at}
use Rattle.lines.specs.Kinds.{kind_of}

-- The line of a layer that holds paragraph p, $pp00 to $ppFF. By rule 26 a line holds all of a paragraph or none of it.
abbrev pub line_in : List Line → ℕ → ℕ → Option Line
line_in lines t p = line_at lines t (paragraph_size * p)

-- layer t has words in chapter x; chapter x has PAGE lines
unfoldable pub uses : List Line → ℕ → ℕ → Bool
uses lines x t = any chapter_paragraphs (λ k. is_some (line_in lines t (chapter_paragraphs * x + k)))

unfoldable pub paged : List Line → ℕ → Bool
paged lines x = any chapter_pages (λ y. uses lines x (suc y))

-- all of the flippable range of chapter x, its paragraphs from k = first_k x on, passes a test
abbrev pub throughout : ℕ → (ℕ → Bool) → Bool
throughout x f = all chapter_paragraphs (λ k. ltb k (first_k x) || f (chapter_paragraphs * x + k))

-- the kind of plain paragraph p
abbrev pub kind_at : List Line → ℕ → ℕ
kind_at lines p = kind_of (line_in lines 0 p)

-- plain ROM covers all of the flippable range of chapter x; nothing plain is in it
unfoldable pub under : List Line → ℕ → Bool
under lines x = throughout x (λ p. eqb (kind_at lines p) 1)

unfoldable pub bare : List Line → ℕ → Bool
bare lines x = throughout x (λ p. eqb (kind_at lines p) 0)
