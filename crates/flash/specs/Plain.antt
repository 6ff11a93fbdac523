-- The plain flash: a list of rows, eight to a sector, and the three commands on it (000, JLP Flash). No place in a lent flash, and no size.
use Rattle.std.specs.Prelude.{ℕ, ◌+◌, ◌*◌, ◌/◌, List, [], ◌∷◌, Bool, cond, ◌&&◌, length, get_or, ltb, leb, eqb, Option, Some, None}
use Rattle.basics.specs.Lists.{laid}
use Rattle.basics.specs.Tables.{table}
use Rattle.basics.specs.Counts.{all}
use Rattle.places.specs.declared.Console.{Console}
use Rattle.flash.specs.declared.Command.{Command}
use Rattle.flash.specs.declared.Command.TheVariants.{Read, Write, Erase}
use Rattle.flash.specs.Flash.{row_words, sector_rows, erased_word, ram_place, ram_lent, ram_word}

-- the rows that there are, and the RAM beside them
pub record PlainFlash : Type 0 where
  pub rows : List (List ℕ)
  pub ram : List ℕ

abbrev pub plain_flash : List (List ℕ) → List ℕ → PlainFlash
plain_flash rows ram = record { rows = rows; ram = ram }

-- an empty row reads as $FFFF
unfoldable pub blank_row : List ℕ
blank_row = table row_words (λ i. erased_word)

unfoldable pub is_empty : List ℕ → Bool
is_empty row = all row_words (λ i. eqb (get_or row i 0) erased_word)

-- row r of the rows; that it is there; and that its sector is
abbrev pub row_of : List (List ℕ) → ℕ → List ℕ
row_of rows r = get_or rows r []

abbrev pub has_row : List (List ℕ) → ℕ → Bool
has_row rows r = ltb r (length rows)

abbrev pub has_sector : List (List ℕ) → ℕ → Bool
has_sector rows r = leb (sector_rows * (r / sector_rows) + sector_rows) (length rows)

-- rows of which some become another
unfoldable pub changed : List (List ℕ) → (ℕ → Bool) → List ℕ → List (List ℕ)
changed rows on row = table (length rows) (λ r. cond (on r) row (row_of rows r))

-- a command is dropped if the row is out of range or some of the RAM is, and a write also if the row is not empty
unfoldable pub plain_readable : PlainFlash → ℕ → Console → Bool
plain_readable p row at = has_row p.rows row && ram_lent (length p.ram) at

unfoldable pub plain_writable : PlainFlash → ℕ → Console → Bool
plain_writable p row at = plain_readable p row at && is_empty (row_of p.rows row)

-- a read copies a row to the RAM; a write copies the RAM to a row; an erase makes all rows of the sector empty
unfoldable pub plain_read_ram : PlainFlash → ℕ → Console → List ℕ
plain_read_ram p row at =
    cond (plain_readable p row at) (laid (ram_place at) row_words (λ i. get_or (row_of p.rows row) i 0) p.ram) p.ram

unfoldable pub plain_written_rows : PlainFlash → ℕ → Console → List (List ℕ)
plain_written_rows p row at =
    cond (plain_writable p row at) (changed p.rows (λ r. eqb r row) (table row_words (ram_word p.ram at))) p.rows

unfoldable pub plain_erased_rows : List (List ℕ) → ℕ → List (List ℕ)
plain_erased_rows rows row =
    cond (has_sector rows row) (changed rows (λ r. eqb (r / sector_rows) (row / sector_rows)) blank_row) rows

-- a command, and a list of them
abbrev pub plain_acted : PlainFlash → Option Command → PlainFlash
plain_acted p (Some (Read row at)) = plain_flash p.rows (plain_read_ram p row at)
plain_acted p (Some (Write row at)) = plain_flash (plain_written_rows p row at) p.ram
plain_acted p (Some (Erase row)) = plain_flash (plain_erased_rows p.rows row) p.ram
plain_acted p None = p

abbrev pub plain_acted_all : PlainFlash → List (Option Command) → PlainFlash
plain_acted_all p [] = p
plain_acted_all p (c ∷ cs) = plain_acted_all (plain_acted p c) cs
