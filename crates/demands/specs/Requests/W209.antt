-- W-209: saved games in JLP flash (02). Reads of $8023 and $8024 are Machine.hears_on; that any sequence answers as a plain list of rows
-- would is Demand2.rows. Row r is words 96 r to 96 r + 95 of the lent flash, and RAM at address a is Locutus word a + $8000.
use Rattle.std.specs.Prelude.{ℕ, ◌+◌, ◌*◌, ◌/◌, ◌<◌, ◌≤◌, true, false, List, ◌⊎◌, ◌≡◌, length, get_or, Option, Some, None}
use Rattle.places.specs.declared.Console.{Console}
use Rattle.flash.specs.declared.Command.{Command}
use Rattle.flash.specs.declared.Command.TheVariants.{Read, Write, Erase}
use Rattle.flash.specs.declared.Saves.{Saves}
use Rattle.flash.specs.Flash.{Memories, command_acts, acted, readable, writable, erasable}
use Rattle.flash.specs.Registers.{fresh_saves, command_of}
use Rattle.jlp.specs.declared.Jlp.{Jlp}
use Rattle.jlp.specs.Accelerators.{reset_jlp}
use Rattle.cart.specs.Run.{World, Access, step}

pub record W209 : Type 0 where
  -- "Read, write and erase act on the words $DEC0, $C0DE and $BEEF": any other write asks for nothing
  pub keys : (s : Saves) (at : Console) (v : ℕ) → ((at.0 ≡ 0x802D) × (v ≡ 0xC0DE) → ⊥) → ((at.0 ≡ 0x802E) × (v ≡ 0xDEC0) → ⊥)
      → ((at.0 ≡ 0x802F) × (v ≡ 0xBEEF) → ⊥) → command_of s at v ≡ None
  -- "is dropped and changes nothing"
  pub dropped : (sectors : ℕ) (m : Memories) (c : Option Command) → command_acts sectors m c ≡ false → acted sectors m c ≡ m
  -- "a row out of range or past the lent flash"
  pub row_out : (sectors : ℕ) (m : Memories) (row : ℕ) → (8 * sectors ≤ row) ⊎ (length m.flash < 96 * row + 96)
      → ((at : Console) → acted sectors m (Some (Read row at)) ≡ m) × ((at : Console) → acted sectors m (Some (Write row at)) ≡ m) × (acted sectors m (Some (Erase row)) ≡ m)
  -- a read copies the row into RAM, and changes no other word
  pub read_in : (sectors : ℕ) (flash ram : List ℕ) (row : ℕ) (at : Console) → readable sectors flash ram row at ≡ true → (i : ℕ) → i < 96
      → get_or (acted sectors (record { flash = flash; ram = ram }) (Some (Read row at))).ram (at.0 + 0x8000 + i) 0 ≡ get_or flash (96 * row + i) 0
  pub read_out : (sectors : ℕ) (flash ram : List ℕ) (row : ℕ) (at : Console) (q : ℕ)
      → (q < at.0 + 0x8000) ⊎ (at.0 + 0x8000 + 96 ≤ q)
      → get_or (acted sectors (record { flash = flash; ram = ram }) (Some (Read row at))).ram q 0 ≡ get_or ram q 0
  -- a write copies RAM into the row, and changes no other word
  pub write_in : (sectors : ℕ) (flash ram : List ℕ) (row : ℕ) (at : Console) → writable sectors flash ram row at ≡ true → (i : ℕ) → i < 96
      → get_or (acted sectors (record { flash = flash; ram = ram }) (Some (Write row at))).flash (96 * row + i) 0 ≡ get_or ram (at.0 + 0x8000 + i) 0
  pub write_out : (sectors : ℕ) (flash ram : List ℕ) (row : ℕ) (at : Console) (q : ℕ) → (q < 96 * row) ⊎ (96 * row + 96 ≤ q)
      → get_or (acted sectors (record { flash = flash; ram = ram }) (Some (Write row at))).flash q 0 ≡ get_or flash q 0
  -- "Erase makes all 8 rows of the sector $FFFF and no other"
  pub erase_in : (sectors : ℕ) (flash ram : List ℕ) (row : ℕ) → erasable sectors flash row ≡ true → (i : ℕ) → i < 768
      → get_or (acted sectors (record { flash = flash; ram = ram }) (Some (Erase row))).flash (768 * (row / 8) + i) 0 ≡ 0xFFFF
  pub erase_out : (sectors : ℕ) (flash ram : List ℕ) (row q : ℕ) → (q / 768 ≡ row / 8 → ⊥)
      → get_or (acted sectors (record { flash = flash; ram = ram }) (Some (Erase row))).flash q 0 ≡ get_or flash q 0
  -- "Registers and commands count only while accelerators are on"
  pub off_keeps : (w : World) (x : Access) → w.cartridge.jlp.on ≡ false → (step w x).flash ≡ w.flash
  -- "Address and row registers are 0 at load and survive reset"
  pub fresh : (sectors : ℕ) → ((fresh_saves sectors).addr ≡ 0) × ((fresh_saves sectors).row ≡ 0)
  pub survives : (j : Jlp) → (reset_jlp j).saves ≡ j.saves
