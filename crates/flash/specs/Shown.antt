-- The plain flash that the lent memories show: the rows that are in range and wholly lent, and the lent RAM (02, W-209).
use Rattle.std.specs.Prelude.{ℕ, ◌*◌, ◌/◌, min, List, length}
use Rattle.basics.specs.Tables.{table}
use Rattle.flash.specs.Flash.{row_words, sector_rows, row_word, Memories}
use Rattle.flash.specs.Plain.{PlainFlash, plain_flash}

-- a row of a lent flash; how many rows of so many sectors lie wholly in so many words; and these rows
unfoldable pub row_at : List ℕ → ℕ → List ℕ
row_at flash r = table row_words (row_word flash r)

abbrev pub row_count : ℕ → ℕ → ℕ
row_count sectors words = min (sector_rows * sectors) (words / row_words)

unfoldable pub flash_rows : ℕ → List ℕ → List (List ℕ)
flash_rows sectors flash = table (row_count sectors (length flash)) (row_at flash)

abbrev pub shown_flash : ℕ → Memories → PlainFlash
shown_flash sectors m = plain_flash (flash_rows sectors m.flash) m.ram
