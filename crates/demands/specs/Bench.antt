-- The bench cases marked (P), of what the functions promise, as one table under one statement (01, Bench cases).
use Rattle.std.specs.Prelude.{ℕ, ◌+◌, ◌*◌, ◌<◌, ◌≤◌, List, ◌∷◌, [], ◌≡◌, true, false, length, get_or, Some, None, Option}
use Rattle.basics.specs.Refusals.{refuse, no_refusal}
use Rattle.places.specs.declared.Console.{Console}
use Rattle.places.specs.Limits.{image_limit}
use Rattle.sums.specs.Crc.{dowcrc_of, crc32_of}
use Rattle.sums.specs.Cases.{up_to15, four}
use Rattle.switches.specs.Flips.{flip_mapping, flip_permissions, asks}
use Rattle.cart.specs.Cells.{locate}
use Rattle.cart.specs.Writes.{stored_word}
use Rattle.cart.specs.Run.{Access, Read, Write, Reset, answers}
use Rattle.label.specs.Label.{wrong_label}
use Rattle.text.specs.Bytes.{text}
use Rattle.cfg.specs.File.{reading_of, refused}
use Rattle.cfg.specs.Examples.{entries}
use Rattle.demands.specs.Pressing.{Pressing, Pressed, world_of}

abbrev pub at : ℕ → Console
at a = record { 0 = a }

-- cases 6 and 7: this CFG with a BIN of so many bytes and any label that 12 passes, built into a buffer that takes any image, and loaded into so many words or more
pub record Case (cfg : List ℕ) (bytes words : ℕ) (p : Pressing) : Type 0 where
  pub pressed : Pressed p
  pub file : p.cfg ≡ cfg
  pub long : length p.bin ≡ bytes
  pub label : wrong_label p.label ≡ false
  pub room : image_limit ≤ length p.out
  pub lent : words ≤ length p.ram

abbrev pub six : List ℕ
six = text "[mapping]\n$0000 - $00FF = $5000"

-- a BIN of 512 bytes: needed 4,096, mapping[0x50] = 0, permission 1; one of 510 bytes: 25, at the entry's line
pub record Six (p : Pressing) : Type 0 where
  pub accepted : p.building.refusal ≡ no_refusal
  pub needed : p.building.needed ≡ 4096
  pub mapping : get_or p.loading.cartridge.mapping 0x50 0 ≡ 0
  pub permission : get_or p.loading.cartridge.permissions 0x50 0 ≡ 1

abbrev pub seven : List ℕ
seven = text "[mapping]\n$0000 - $0FFF = $C000 PAGE 2"

-- read $C000; write $CA52 to $CFFF, read it again; reset, read it again
abbrev pub seven_accesses : List Access
seven_accesses = Read (at 0xC000) ∷ Write (at 0xCFFF) 0xCA52 ∷ Read (at 0xC000) ∷ Reset ∷ Read (at 0xC000) ∷ []

-- silence, BIN word 0 (its bytes, the high one first), silence
abbrev pub seven_answers : List ℕ → List (Option ℕ)
seven_answers bin = None ∷ Some (get_or bin 0 0 * 256 + get_or bin 1 0) ∷ None ∷ []

-- a BIN of 8,192 bytes: entry 194 is 0x0009, the chapter's others 0x0008; and what is read
pub record Seven (p : Pressing) : Type 0 where
  pub accepted : p.building.refusal ≡ no_refusal
  pub entry : get_or p.loading.cartridge.flips 194 0 ≡ 0x0009
  pub others : (y : ℕ) → y < 16 → (y ≡ 2 → ⊥) → get_or p.loading.cartridge.flips (192 + y) 0 ≡ 0x0008
  pub reads : answers (world_of p.loading p.flash p.stored) seven_accesses ≡ seven_answers p.bin

pub record Bench : Type 0 where
  -- 1. DOWCRC
  pub dowcrc_16 : dowcrc_of up_to15 ≡ 0x00
  pub dowcrc_4 : dowcrc_of four ≡ 0xB8
  -- 2. CRC32 of the same two
  pub crc32_16 : crc32_of up_to15 ≡ 0xCECE_E288
  pub crc32_4 : crc32_of four ≡ 0x9B04_D72C
  -- 3. flip entry 0x123D at k = 10, and a location
  pub flip_mapping_lem : flip_mapping 0x123D 10 ≡ 0x123A
  pub flip_permissions_lem : flip_permissions 0x123D 10 ≡ 5
  pub flip_location : (locate 0x123A (at 0x34)).0 ≡ 0x23A34
  -- 4. a narrow write
  pub narrow : stored_word true 0x12FF 0xABCD ≡ 0x12CD
  -- 5. page requests
  pub asks_83 : asks (at 0x5FFF) 0x5A53 ≡ Some 83
  pub asks_elsewhere : asks (at 0x5FFF) 0x6A53 ≡ None
  pub asks_beside : asks (at 0x5FFE) 0x5A53 ≡ None
  -- 6. a paragraph of ROM
  pub rom : (p : Pressing) → Case six 512 4096 p → Six p
  pub rom_short : (p : Pressing) → Case six 510 0 p → p.building.refusal ≡ refuse 25 2
  -- 7. page 2 of chapter 12
  pub page_2 : (p : Pressing) → Case seven 8192 4096 p → Seven p
  -- 8. 128 entries pass rule 24, 129 don't (02, W-210)
  pub entries_128 : (reading_of (entries 128)).refusal ≡ no_refusal
  pub entries_129 : reading_of (entries 129) ≡ refused (refuse 24 130)
