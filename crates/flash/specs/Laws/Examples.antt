-- A save by its registers, row by row: the definitions compute.
use Rattle.std.specs.Prelude.{ℕ, List, ◌++◌, ◌≡◌, refl, true, false, replicate, Some, None}
use Rattle.basics.specs.Lists.{laid}
use Rattle.basics.specs.Counts.{all}
use Rattle.basics.specs.Tables.{made}
use Rattle.places.specs.Places.{console}
use Rattle.flash.specs.declared.Command.TheVariants.{Read, Write, Erase}
use Rattle.flash.specs.declared.Saves.{Saves}
use Rattle.flash.specs.Flash.{row_place, row_lent, sector_lent, ram_lent, empty_at, erased_flash}
use Rattle.flash.specs.Registers.{has_flash, fresh_saves, flash_heard, remembered, command_of}
use Rattle.flash.specs.Plain.{blank_row, changed, plain_erased_rows}

-- one sector has rows 0 to 7, and the largest flash rows 0 to 5,455; without a flash the registers are silent
pub first_row_lem : flash_heard (fresh_saves 1) (console 0x8023) ≡ Some 0
unfolding flash_heard has_flash
first_row_lem = refl

pub last_row : flash_heard (fresh_saves 1) (console 0x8024) ≡ Some 7
unfolding flash_heard has_flash
last_row = refl

pub largest : flash_heard (fresh_saves 682) (console 0x8024) ≡ Some 5455
unfolding flash_heard has_flash
largest = refl

pub too_large : flash_heard (fresh_saves 683) (console 0x8024) ≡ None
unfolding flash_heard has_flash
too_large = refl

pub no_size : flash_heard (fresh_saves 0) (console 0x8024) ≡ None
unfolding flash_heard has_flash
no_size = refl

pub write_only : flash_heard (fresh_saves 1) (console 0x8025) ≡ None
unfolding flash_heard has_flash
write_only = refl

-- a program sets the address and the row, then writes the key; another word there asks nothing
abbrev set_up : Saves
set_up = remembered (remembered (fresh_saves 1) (console 0x8025) 0x8100) (console 0x8026) 5

pub asks_write : command_of set_up (console 0x802D) 0xC0DE ≡ Some (Write 5 (console 0x8100))
unfolding command_of remembered has_flash
asks_write = refl

pub asks_read : command_of set_up (console 0x802E) 0xDEC0 ≡ Some (Read 5 (console 0x8100))
unfolding command_of remembered has_flash
asks_read = refl

pub asks_erase : command_of set_up (console 0x802F) 0xBEEF ≡ Some (Erase 5)
unfolding command_of remembered has_flash
asks_erase = refl

pub other_key : command_of set_up (console 0x802D) 0xDEC0 ≡ None
unfolding command_of remembered has_flash
other_key = refl

pub keeps_nothing : remembered (fresh_saves 0) (console 0x8025) 0x8100 ≡ fresh_saves 0
unfolding remembered has_flash
keeps_nothing = refl

-- row 7 of one sector, row 8, and row 8 of two sectors of which one is lent; row 7 of a flash that is a word short
pub last_lent : row_lent 1 768 7 ≡ true
unfolding row_lent
last_lent = refl

pub out_of_range : row_lent 1 1536 8 ≡ false
unfolding row_lent
out_of_range = refl

pub past_the_lent : row_lent 2 768 8 ≡ false
unfolding row_lent
past_the_lent = refl

pub one_short : row_lent 1 767 7 ≡ false
unfolding row_lent
one_short = refl

pub sector_short : sector_lent 1 767 0 ≡ false
unfolding sector_lent
sector_short = refl

-- 96 words from $8040 and from $9F20 on are RAM, not from an address before or behind
pub ram_first : ram_lent 73600 (console 0x8040) ≡ true
unfolding ram_lent
ram_first = refl

pub ram_before : ram_lent 73600 (console 0x803F) ≡ false
unfolding ram_lent
ram_before = refl

pub ram_last : ram_lent 73600 (console 0x9F20) ≡ true
unfolding ram_lent
ram_last = refl

pub ram_behind : ram_lent 73600 (console 0x9F21) ≡ false
unfolding ram_lent
ram_behind = refl

pub ram_not_lent : ram_lent 73599 (console 0x9F20) ≡ false
unfolding ram_lent
ram_not_lent = refl

-- one sector, empty; with sevens written to row 5, that row is in use and the rows beside it are not
abbrev saved : List ℕ
saved = replicate 480 0xFFFF ++ (replicate 96 7 ++ replicate 192 0xFFFF)

pub row_written : laid (row_place 5) 96 (λ i. 7) (replicate 768 0xFFFF) ≡ saved
unfolding laid
row_written = refl

pub row_before : empty_at saved (row_place 4) ≡ true
unfolding empty_at all
row_before = refl

pub row_in_use : empty_at saved (row_place 5) ≡ false
unfolding empty_at all
row_in_use = refl

pub row_behind : empty_at saved (row_place 6) ≡ true
unfolding empty_at all
row_behind = refl

-- an erase of row 2 empties the whole sector, in the lent flash and in the plain one
pub erases_sector : erased_flash 1 saved 2 ≡ replicate 768 0xFFFF
unfolding erased_flash sector_lent laid
erases_sector = refl

pub erases_rows : plain_erased_rows (replicate 8 (replicate 96 7)) 2 ≡ replicate 8 blank_row
unfolding plain_erased_rows changed made
erases_rows = refl
