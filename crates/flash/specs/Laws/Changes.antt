-- What each command changes, and that it changes nothing else; a dropped one changes nothing.
use Rattle.std.specs.Prelude.{ℕ, ◌+◌, ◌*◌, ◌/◌, ◌<◌, ◌≤◌, ◌≡◌, refl, List, [], ◌∷◌, true, ◌⊎◌, length, get_or, Option, Some, None}
use Rattle.std.proofs.Common.{◌∙◌, arith}
use Rattle.std.proofs.Math.Bool.{false}
use Rattle.std.proofs.Math.Logic.{inl, inr}
use Rattle.basics.specs.Laws.Lists.{length_laid, laid_in, laid_out}
use Rattle.basics.specs.Laws.Tests.{cases, compare, and_false, true_is_not_false}
use Rattle.places.specs.declared.Console.{Console}
use Rattle.flash.specs.declared.Command.{Command}
use Rattle.flash.specs.declared.Command.TheVariants.{Read, Write, Erase}
use Rattle.flash.specs.Flash.{row_words, sector_rows, sector_words, erased_word, row_place, sector_place, ram_place, row_lent, sector_lent, empty_at, row_word, ram_word, readable, writable, erasable, read_ram, written_flash, erased_flash, Memories, command_acts, acted, acted_all}
use Rattle.flash.specs.Laws.Lent.{row_in, row_past, row_short, sector_in, sector_row, ram_in_lem, readable_ram, writable_row}

-- a command that does not act is dropped: it changes no word of flash or RAM
pub dropped : (sectors : ℕ) (m : Memories) (c : Option Command) → command_acts sectors m c ≡ false → acted sectors m c ≡ m
unfolding read_ram written_flash erased_flash
dropped sectors m (Some (Read row at)) e = rw e
dropped sectors m (Some (Write row at)) e = rw e
dropped sectors m (Some (Erase row)) e = rw e
dropped sectors m None e = refl

-- every command on a row is dropped, and changes nothing
abbrev pub DropsRow : ℕ → Memories → ℕ → Type 0
DropsRow sectors m row =
    ((at : Console) → acted sectors m (Some (Read row at)) ≡ m) × ((at : Console) → acted sectors m (Some (Write row at)) ≡ m) × (acted sectors m (Some (Erase row)) ≡ m)

-- a row that is not there drops every command: one out of range, and one that the lent flash does not hold whole
module _ (sectors : ℕ) (m : Memories) (row : ℕ) where
  abbrev words : ℕ
  words = length m.flash

  no_row : row_lent sectors words row ≡ false → DropsRow sectors m row
  unfolding writable readable
  no_row e =
      let no-sector : sector_lent sectors words row ≡ false =
      cases (sector_lent sectors words row) (λ t. true_is_not_false (sector_row sectors words row t) e) (λ t. t) in
      ((λ at. dropped sectors m (Some (Read row at)) (rw e)), (λ at. dropped sectors m (Some (Write row at)) (rw e)), dropped sectors m (Some (Erase row)) no-sector)

  pub row_past_range : sector_rows * sectors ≤ row → DropsRow sectors m row
  row_past_range h = no_row (row_past sectors words row h)

  pub row_past_flash : words < row_place row + row_words → DropsRow sectors m row
  row_past_flash h = no_row (row_short sectors words row h)

  -- no command but a write and an erase changes flash, and none but a read changes RAM
  pub read_flash : (at : Console) → (acted sectors m (Some (Read row at))).flash ≡ m.flash
  read_flash at = refl

  pub write_ram : (at : Console) → (acted sectors m (Some (Write row at))).ram ≡ m.ram
  write_ram at = refl

  pub erase_ram : (acted sectors m (Some (Erase row))).ram ≡ m.ram
  erase_ram = refl

module _ (sectors : ℕ) (flash ram : List ℕ) (row : ℕ) where
  -- an erase: every word of the sector, and no other word
  pub erase_in : erasable sectors flash row ≡ true → (i : ℕ) → i < sector_words → get_or (erased_flash sectors flash row) (sector_place row + i) 0 ≡ erased_word
  unfolding erased_flash
  erase_in e i l =
      rw e (laid_in (sector_place row) (λ j. erased_word) flash sector_words i l (omega (arith, (sector_in sectors (length flash) row e).1)))

  pub erase_out : (q : ℕ) → (q / sector_words ≡ row / sector_rows → ⊥) → get_or (erased_flash sectors flash row) q 0 ≡ get_or flash q 0
  unfolding erased_flash
  erase_out q h =
      cases (erasable sectors flash row)
      (λ e. rw e (laid_out (sector_place row) (λ j. erased_word) flash sector_words q (side (compare (q / sector_words) (row / sector_rows)))))
      (λ e. rw e)
    where
      side : (q / sector_words ≡ row / sector_rows) ⊎ ((q / sector_words < row / sector_rows) ⊎ (row / sector_rows < q / sector_words))
          → (q < sector_place row) ⊎ (sector_place row + sector_words ≤ q)
      side (inl x) = absurd (h x)
      side (inr (inl x)) = inl (omega arith)
      side (inr (inr x)) = inr (omega arith)

  pub length_erased : length (erased_flash sectors flash row) ≡ length flash
  unfolding erased_flash
  length_erased =
      cases (erasable sectors flash row) (λ e. rw e (length_laid (sector_place row) (λ j. erased_word) flash sector_words)) (λ e. rw e)

  module _ (at : Console) where
    -- a write: every word of the row, and no other word
    pub write_in : writable sectors flash ram row at ≡ true → (i : ℕ) → i < row_words → row_word (written_flash sectors flash ram row at) row i ≡ ram_word ram at i
    unfolding written_flash
    write_in e i l =
        rw e
        (laid_in (row_place row) (ram_word ram at) flash row_words i l
        (omega (arith, (row_in sectors (length flash) row (writable_row sectors flash ram row at e)).1)))

    pub write_out : (q : ℕ) → (q / row_words ≡ row → ⊥) → get_or (written_flash sectors flash ram row at) q 0 ≡ get_or flash q 0
    unfolding written_flash
    write_out q h =
        cases (writable sectors flash ram row at)
        (λ e. rw e (laid_out (row_place row) (ram_word ram at) flash row_words q (side (compare (q / row_words) row))))
        (λ e. rw e)
      where
        side : (q / row_words ≡ row) ⊎ ((q / row_words < row) ⊎ (row < q / row_words)) → (q < row_place row) ⊎ (row_place row + row_words ≤ q)
        side (inl x) = absurd (h x)
        side (inr (inl x)) = inl (omega arith)
        side (inr (inr x)) = inr (omega arith)

    pub length_written : length (written_flash sectors flash ram row at) ≡ length flash
    unfolding written_flash
    length_written =
        cases (writable sectors flash ram row at) (λ e. rw e (length_laid (row_place row) (ram_word ram at) flash row_words)) (λ e. rw e)

    -- a read: the 96 words of RAM at the address, and no other word
    pub read_in : readable sectors flash ram row at ≡ true → (i : ℕ) → i < row_words → ram_word (read_ram sectors flash ram row at) at i ≡ row_word flash row i
    unfolding read_ram
    read_in e i l =
        rw e
        (laid_in (ram_place at) (row_word flash row) ram row_words i l
        (omega (arith, (ram_in_lem (length ram) at (readable_ram sectors flash ram row at e)).2)))

    pub read_out : (q : ℕ) → (q < ram_place at) ⊎ (ram_place at + row_words ≤ q) → get_or (read_ram sectors flash ram row at) q 0 ≡ get_or ram q 0
    unfolding read_ram
    read_out q h =
        cases (readable sectors flash ram row at) (λ e. rw e (laid_out (ram_place at) (row_word flash row) ram row_words q h)) (λ e. rw e)

    pub length_read : length (read_ram sectors flash ram row at) ≡ length ram
    unfolding read_ram
    length_read =
        cases (readable sectors flash ram row at) (λ e. rw e (length_laid (ram_place at) (row_word flash row) ram row_words)) (λ e. rw e)

    -- a row that is not empty takes no write
    pub write_full : empty_at flash (row_place row) ≡ false → writable sectors flash ram row at ≡ false
    unfolding writable
    write_full e = and_false (readable sectors flash ram row at) _ e

-- the lent lengths stay
pub length_flash : (sectors : ℕ) (m : Memories) (c : Option Command) → length (acted sectors m c).flash ≡ length m.flash
length_flash sectors m (Some (Read row at)) = refl
length_flash sectors m (Some (Write row at)) = length_written sectors m.flash m.ram row at
length_flash sectors m (Some (Erase row)) = length_erased sectors m.flash m.ram row
length_flash sectors m None = refl

pub length_ram : (sectors : ℕ) (m : Memories) (c : Option Command) → length (acted sectors m c).ram ≡ length m.ram
length_ram sectors m (Some (Read row at)) = length_read sectors m.flash m.ram row at
length_ram sectors m (Some (Write row at)) = refl
length_ram sectors m (Some (Erase row)) = refl
length_ram sectors m None = refl

pub length_flash_all : (sectors : ℕ) (m : Memories) (cs : List (Option Command)) → length (acted_all sectors m cs).flash ≡ length m.flash
length_flash_all sectors m [] = refl
length_flash_all sectors m (c ∷ cs) = length_flash_all sectors (acted sectors m c) cs ∙ length_flash sectors m c

pub length_ram_all : (sectors : ℕ) (m : Memories) (cs : List (Option Command)) → length (acted_all sectors m cs).ram ≡ length m.ram
length_ram_all sectors m [] = refl
length_ram_all sectors m (c ∷ cs) = length_ram_all sectors (acted sectors m c) cs ∙ length_ram sectors m c
