-- What it means that a BIN and lines build an image's tables and words, the BIN's size apart (02, W-213).
use Rattle.std.specs.Prelude.{◌*◌, ◌+◌, ◌<◌, ◌≤◌, ℕ, ◌≡◌, List, Bool, true, eqb, length}
use Rattle.basics.specs.Counts.{all}
use Rattle.places.specs.Limits.{paragraph_size}
use Rattle.tables.specs.Tables.{Tables, tables}
use Rattle.lines.specs.declared.Line.{Line}
use Rattle.rules.specs.Accepted.{Accepted}
use Rattle.layout.specs.Drawing.{word_at}
use Rattle.layout.specs.Layout.{covered, flip_table, mapping_table, permissions_table}

-- lines that the rules accept, which build these tables, name these Locutus paragraphs, and put these words there
pub record Made (t : Tables) (named : ℕ → Bool) (w : ℕ → ℕ) (bin : List ℕ) (lines : List Line) : Type 0 where
  pub accepted : Accepted bin lines
  pub some : 1 ≤ length lines
  pub tables : tables (mapping_table lines) (permissions_table lines) (flip_table lines) ≡ t
  pub names : (p : ℕ) → covered lines p ≡ named p
  pub words : (p i : ℕ) → named p ≡ true → i < paragraph_size → word_at bin lines (paragraph_size * p + i) ≡ w (paragraph_size * p + i)

-- the words of Locutus paragraph p are zeros
abbrev pub blank_in : (ℕ → ℕ) → ℕ → Bool
blank_in w p = all paragraph_size (λ i. eqb (w (paragraph_size * p + i)) 0)
