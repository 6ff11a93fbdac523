-- The lent memories answer any list of commands as the plain flash that they show does, with the same rows behind it (02, W-209).
use Rattle.std.specs.Prelude.{ℕ, ◌+◌, ◌*◌, ◌/◌, ◌<◌, ◌≤◌, ◌≡◌, refl, Bool, true, false, cond, ◌&&◌, length, ltb, leb, Option, Some, None}
use Rattle.std.proofs.Math.Path.{sym, ap}
use Rattle.std.proofs.Common.{◌∙◌, arith, ltb-true, leb-true, lt-ltb, le-leb}
use mathlib.Core.List.{List, [], ◌∷◌}
use Rattle.std.proofs.Math.ListN.{get_or}
use Rattle.std.proofs.Math.Dec.{eqb}
use Rattle.basics.specs.Tables.{table}
use Rattle.basics.specs.Laws.Lists.{length_laid, laid_same}
use Rattle.basics.specs.Laws.Counts.{all_same}
use Rattle.basics.specs.Laws.Tests.{same_test}
use Rattle.places.specs.declared.Console.{Console}
use Rattle.flash.specs.declared.Command.{Command}
use Rattle.flash.specs.declared.Command.TheVariants.{Read, Write, Erase}
use Rattle.flash.specs.Flash.{row_words, sector_rows, sector_words, erased_word, row_place, sector_place, ram_place, row_lent, sector_lent, ram_lent, empty_at, row_word, ram_word, readable, writable, read_ram, written_flash, erased_flash, Memories, acted, acted_all}
use Rattle.flash.specs.Plain.{blank_row, is_empty, row_of, has_row, has_sector, PlainFlash, plain_flash, plain_readable, plain_writable, plain_read_ram, plain_written_rows, plain_erased_rows, plain_acted, plain_acted_all}
use Rattle.flash.specs.Shown.{row_at, row_count, flash_rows, shown_flash}
use Rattle.flash.specs.Laws.Lent.{row_in, row_of_lem, sector_in, sector_of, readable_row, writable_row}
use Rattle.flash.specs.Laws.Rows.{row_word_lem, length_rows, rows_at, rows_changed, laid_row, laid_sector}

-- tests joined are equal if the second are where the first hold; a choice by equal tests
and_same : (a b x y : Bool) → a ≡ b → (a ≡ true → x ≡ y) → a && x ≡ b && y
and_same true b x y e f = rw (← e) (f refl)
and_same false b x y e f = rw (← e)

by_test : {A B : Type 0} (f : A → B) (b d : Bool) (x y : A) (u : B) → b ≡ d → (b ≡ true → f x ≡ u) → f (cond b x y) ≡ cond d u (f y)
by_test f true d x y u e g = rw (← e) (g refl)
by_test f false d x y u e g = rw (← e)

-- the tests of the one are those of the other
module _ (sectors words row : ℕ) where
  row_counted : row_lent sectors words row ≡ ltb row (row_count sectors words)
  row_counted =
      same_test _ _
      (λ e. let h : (row < sector_rows * sectors) × (row_place row + row_words ≤ words) = row_in sectors words row e in lt-ltb row (row_count sectors words) (omega arith))
      (λ e. let h : row < row_count sectors words = ltb-true _ _ e in row_of_lem sectors words row (omega arith) (omega arith))

  sector_counted : sector_lent sectors words row ≡ leb (sector_rows * (row / sector_rows) + sector_rows) (row_count sectors words)
  sector_counted =
      same_test _ _
      (λ e.
      let h : (row < sector_rows * sectors) × (sector_place row + sector_words ≤ words) = sector_in sectors words row e in
      le-leb (sector_rows * (row / sector_rows) + sector_rows) (row_count sectors words) (omega arith))
      (λ e.
      let h : sector_rows * (row / sector_rows) + sector_rows ≤ row_count sectors words = leb-true _ _ e in
      sector_of sectors words row (omega arith) (omega arith))

empty_row : (flash : List ℕ) (row : ℕ) → empty_at flash (row_place row) ≡ is_empty (row_at flash row)
unfolding empty_at is_empty
empty_row flash row = all_same row_words _ _ (λ i l. ap (λ (w : ℕ). eqb w erased_word) (sym (row_word_lem flash row i l)))

module _ (sectors : ℕ) (flash ram : List ℕ) (row : ℕ) where
  abbrev rows : List (List ℕ)
  rows = flash_rows sectors flash

  row_same : row_lent sectors (length flash) row ≡ has_row rows row
  row_same = row_counted sectors (length flash) row ∙ ap (ltb row) (sym (length_rows sectors flash))

  row_shown : row_lent sectors (length flash) row ≡ true → row_of rows row ≡ row_at flash row
  row_shown e = rows_at sectors flash row (ltb-true _ _ (sym (row_counted sectors (length flash) row) ∙ e))

  -- an erase
  pub erase_alike : flash_rows sectors (erased_flash sectors flash row) ≡ plain_erased_rows rows row
  unfolding erased_flash plain_erased_rows
  erase_alike =
      by_test (flash_rows sectors) (sector_lent sectors (length flash) row) (has_sector rows row) _ flash _
      (sector_counted sectors (length flash) row ∙ ap (leb (sector_rows * (row / sector_rows) + sector_rows)) (sym (length_rows sectors flash)))
      (λ e.
      rows_changed sectors flash _ (λ r. eqb (r / sector_rows) (row / sector_rows)) blank_row
      (length_laid (sector_place row) (λ i. erased_word) flash sector_words)
      (laid_sector flash (row / sector_rows) (sector_in sectors (length flash) row e).1))

  module _ (at : Console) where
    abbrev plain : PlainFlash
    plain = plain_flash rows ram

    readable_same : readable sectors flash ram row at ≡ plain_readable plain row at
    unfolding readable plain_readable
    readable_same = ap (λ (b : Bool). b && ram_lent (length ram) at) row_same

    writable_same : writable sectors flash ram row at ≡ plain_writable plain row at
    unfolding writable plain_writable
    writable_same =
        and_same (readable sectors flash ram row at) _ (empty_at flash (row_place row)) _ readable_same
        (λ e. empty_row flash row ∙ ap is_empty (sym (row_shown (readable_row sectors flash ram row at e))))

    -- a write
    pub write_alike : flash_rows sectors (written_flash sectors flash ram row at) ≡ plain_written_rows plain row at
    unfolding written_flash plain_written_rows
    write_alike =
        by_test (flash_rows sectors) (writable sectors flash ram row at) _ _ flash _ writable_same
        (λ e.
        rows_changed sectors flash _ (λ r. eqb r row) (table row_words (ram_word ram at))
        (length_laid (row_place row) (ram_word ram at) flash row_words)
        (laid_row flash row (ram_word ram at) (row_in sectors (length flash) row (writable_row sectors flash ram row at e)).1))

    -- a read
    pub read_alike : read_ram sectors flash ram row at ≡ plain_read_ram plain row at
    unfolding read_ram plain_read_ram
    read_alike =
        by_test (λ (m : List ℕ). m) (readable sectors flash ram row at) _ _ ram _ readable_same
        (λ e.
        laid_same (ram_place at) row_words (row_word flash row) (λ i. get_or (row_of rows row) i 0) ram
        (λ i l. sym (row_word_lem flash row i l) ∙ ap (λ (t : List ℕ). get_or t i 0) (sym (row_shown (readable_row sectors flash ram row at e)))))

-- a command, and any list of them
pub alike : (sectors : ℕ) (m : Memories) (c : Option Command) → shown_flash sectors (acted sectors m c) ≡ plain_acted (shown_flash sectors m) c
alike sectors m (Some (Read row at)) = ap (plain_flash (flash_rows sectors m.flash)) (read_alike sectors m.flash m.ram row at)
alike sectors m (Some (Write row at)) = ap (λ (r : List (List ℕ)). plain_flash r m.ram) (write_alike sectors m.flash m.ram row at)
alike sectors m (Some (Erase row)) = ap (λ (r : List (List ℕ)). plain_flash r m.ram) (erase_alike sectors m.flash m.ram row)
alike sectors m None = refl

pub alike_all : (sectors : ℕ) (m : Memories) (cs : List (Option Command)) → shown_flash sectors (acted_all sectors m cs) ≡ plain_acted_all (shown_flash sectors m) cs
alike_all sectors m [] = refl
alike_all sectors m (c ∷ cs) = rw (← alike sectors m c) (alike_all sectors (acted sectors m c) cs)
