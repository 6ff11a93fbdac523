-- Saved games: rows of a lent flash, and what each command leaves of it and of the lent RAM (02, W-209; 000, JLP Flash).
use Rattle.std.specs.Prelude.{ℕ, ◌+◌, ◌*◌, ◌/◌, List, [], ◌∷◌, Bool, cond, ◌&&◌, false, length, get_or, ltb, leb, eqb, Option, Some, None}
use Rattle.basics.specs.Lists.{laid}
use Rattle.basics.specs.Counts.{all}
use Rattle.places.specs.declared.Console.{Console}
use Rattle.flash.specs.declared.Command.{Command}
use Rattle.flash.specs.declared.Command.TheVariants.{Read, Write, Erase}

-- a row holds 96 words, a sector consists of 8 rows, so of 768 words; a flash has 682 sectors at most; an erased word is $FFFF
abbrev pub row_words : ℕ
row_words = 96

abbrev pub sector_rows : ℕ
sector_rows = 8

abbrev pub sector_words : ℕ
sector_words = sector_rows * row_words

abbrev pub sector_limit : ℕ
sector_limit = 682

abbrev pub erased_word : ℕ
erased_word = 0xFFFF

-- commands copy to and from the RAM at $8040-$9F7F, whose word at address a is lent word a + $8000 (02, W-206)
abbrev pub ram_start : ℕ
ram_start = 0x8040

abbrev pub ram_end : ℕ
ram_end = 0x9F7F

abbrev pub ram_shift : ℕ
ram_shift = 0x8000

-- where a row starts in the lent flash, a row's sector, and RAM at an address in the lent RAM
abbrev pub row_place : ℕ → ℕ
row_place row = row_words * row

abbrev pub sector_place : ℕ → ℕ
sector_place row = sector_words * (row / sector_rows)

abbrev pub ram_place : Console → ℕ
ram_place at = at.0 + ram_shift

-- a row in range, from 0 to 8 x sectors - 1; one that is wholly lent; one whose sector is; 96 words of $8040-$9F7F that are
abbrev pub in_range : ℕ → ℕ → Bool
in_range sectors row = ltb row (sector_rows * sectors)

unfoldable pub row_lent : ℕ → ℕ → ℕ → Bool
row_lent sectors words row = in_range sectors row && leb (row_place row + row_words) words

unfoldable pub sector_lent : ℕ → ℕ → ℕ → Bool
sector_lent sectors words row = in_range sectors row && leb (sector_place row + sector_words) words

unfoldable pub ram_lent : ℕ → Console → Bool
ram_lent words at = leb ram_start at.0 && (leb (at.0 + row_words) (ram_end + 1) && leb (ram_place at + row_words) words)

-- the row at a place is empty: all $FFFF
abbrev pub is_erased : List ℕ → ℕ → ℕ → Bool
is_erased s a i = eqb (get_or s (a + i) 0) erased_word

unfoldable pub empty_at : List ℕ → ℕ → Bool
empty_at s a = all row_words (is_erased s a)

-- word i of a row, and of the RAM at an address
abbrev pub row_word : List ℕ → ℕ → ℕ → ℕ
row_word flash row i = get_or flash (row_place row + i) 0

abbrev pub ram_word : List ℕ → Console → ℕ → ℕ
ram_word ram at i = get_or ram (ram_place at + i) 0

-- a read acts where the row and the RAM are there, a write where the row is empty too; an erase acts where the row's sector is there;
-- any other command is dropped and changes nothing (000, JF.rdcmd, JF.wrcmd, JF.ercmd)
unfoldable pub readable : ℕ → List ℕ → List ℕ → ℕ → Console → Bool
readable sectors flash ram row at = row_lent sectors (length flash) row && ram_lent (length ram) at

unfoldable pub writable : ℕ → List ℕ → List ℕ → ℕ → Console → Bool
writable sectors flash ram row at = readable sectors flash ram row at && empty_at flash (row_place row)

abbrev pub erasable : ℕ → List ℕ → ℕ → Bool
erasable sectors flash row = sector_lent sectors (length flash) row

-- the RAM after a read, the flash after a write, the flash after an erase
unfoldable pub read_ram : ℕ → List ℕ → List ℕ → ℕ → Console → List ℕ
read_ram sectors flash ram row at =
    cond (readable sectors flash ram row at) (laid (ram_place at) row_words (row_word flash row) ram) ram

unfoldable pub written_flash : ℕ → List ℕ → List ℕ → ℕ → Console → List ℕ
written_flash sectors flash ram row at =
    cond (writable sectors flash ram row at) (laid (row_place row) row_words (ram_word ram at) flash) flash

unfoldable pub erased_flash : ℕ → List ℕ → ℕ → List ℕ
erased_flash sectors flash row =
    cond (erasable sectors flash row) (laid (sector_place row) sector_words (λ i. erased_word) flash) flash

-- the two lent memories, and what a command and a list of them leave
pub record Memories : Type 0 where
  pub flash : List ℕ
  pub ram : List ℕ

abbrev pub memories : List ℕ → List ℕ → Memories
memories flash ram = record { flash = flash; ram = ram }

abbrev pub command_acts : ℕ → Memories → Option Command → Bool
command_acts sectors m (Some (Read row at)) = readable sectors m.flash m.ram row at
command_acts sectors m (Some (Write row at)) = writable sectors m.flash m.ram row at
command_acts sectors m (Some (Erase row)) = erasable sectors m.flash row
command_acts sectors m None = false

abbrev pub acted : ℕ → Memories → Option Command → Memories
acted sectors m (Some (Read row at)) = memories m.flash (read_ram sectors m.flash m.ram row at)
acted sectors m (Some (Write row at)) = memories (written_flash sectors m.flash m.ram row at) m.ram
acted sectors m (Some (Erase row)) = memories (erased_flash sectors m.flash row) m.ram
acted sectors m None = m

abbrev pub acted_all : ℕ → Memories → List (Option Command) → Memories
acted_all sectors m [] = m
acted_all sectors m (c ∷ cs) = acted_all sectors (acted sectors m c) cs
