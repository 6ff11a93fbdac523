-- What one console access does, said of the tables' own entries and bits (01, The machine; 02, W-202, W-206, W-209, W-211 and W-212). Nothing
-- here cites the definitions of who answers a read or who takes a write: these are the papers' sentences, of every cartridge and every RAM.
use Rattle.std.specs.Prelude.{ℕ, ◌+◌, ◌*◌, ◌-◌, ◌/◌, ◌%◌, ◌<◌, ◌≤◌, List, true, cond, ◌↔◌, ◌⊎◌, ◌≡◌, eqb, length, get_or, Some}
use Rattle.basics.specs.Counts.{count}
use Rattle.places.specs.declared.Console.{Console}
use Rattle.places.specs.Limits.{lent}
use Rattle.cart.specs.declared.Cartridge.{Cartridge}
use Rattle.cart.specs.Cartridges.{read_of, written_of}
use Rattle.cart.specs.Run.{World, Write, Reset, step}

-- paragraph p is the address divided by 256: its entry in a table, and its location, mapping[p] x 256 + the low byte, modulo 2^19
abbrev pub entry_at : List ℕ → Console → ℕ
entry_at table at = get_or table (at.0 / 256) 0

abbrev pub location_at : Cartridge → Console → ℕ
location_at c at = (entry_at c.mapping at * 256 + at.0 % 256) % 524288

-- the accelerators have an address: they are on, and it is one of $8000-$9FFF (02, W-206)
abbrev pub Accelerated : Cartridge → Console → Type 0
Accelerated c at = (c.jlp.on ≡ true) × ((0x8000 ≤ at.0) × (at.0 ≤ 0x9FFF))

-- a read gets the word w by the tables: READ is set, the location lies in the lent RAM and holds w, and the address is in none of
-- $0000-$04FF, $1000-$1FFF and $3000-$3FFF
pub record Hears (c : Cartridge) (ram : List ℕ) (at : Console) (w : ℕ) : Type 0 where
  pub read : entry_at c.permissions at % 2 ≡ 1
  pub lent_there : location_at c at < lent ram
  pub holds : get_or ram (location_at c at) 0 ≡ w
  pub above : 0x500 ≤ at.0
  pub not_1 : at.0 / 0x1000 ≡ 1 → ⊥
  pub not_3 : at.0 / 0x1000 ≡ 3 → ⊥

-- it gets w from the accelerators: from their RAM at $8040-$9F7F, which is Locutus $10040-$11F7F
pub record HearsRam (ram : List ℕ) (at : Console) (w : ℕ) : Type 0 where
  pub from : 0x8040 ≤ at.0
  pub to : at.0 ≤ 0x9F7F
  pub lent_there : at.0 + 0x8000 < lent ram
  pub holds : get_or ram (at.0 + 0x8000) 0 ≡ w

-- or from a register: the two result words, the CRC, and the first and the last row of a flash of 1 to 682 sectors
pub record HearsRow (c : Cartridge) (at : Console) (w : ℕ) : Type 0 where
  pub some : 1 ≤ c.jlp.saves.sectors
  pub most : c.jlp.saves.sectors ≤ 682
  pub row : ((at.0 ≡ 0x8023) × (w ≡ 0)) ⊎ ((at.0 ≡ 0x8024) × (w ≡ 8 * c.jlp.saves.sectors - 1))

abbrev pub HearsRegister : Cartridge → Console → ℕ → Type 0
HearsRegister c at w =
    ((at.0 ≡ 0x9F8E) × (w ≡ c.jlp.results.first))
    ⊎ (((at.0 ≡ 0x9F8F) × (w ≡ c.jlp.results.second))
    ⊎ (((at.0 ≡ 0x9FFD) × (w ≡ c.jlp.crc))
    ⊎ HearsRow c at w))

-- a write asks for page y of chapter x, and acts: $xA5y to $xFFF, PFE of flip entry 16x + y is set, x is neither 0 nor 1, and the
-- accelerators don't have the address
abbrev pub flip_asked : Cartridge → ℕ → ℕ
flip_asked c v = get_or c.flips (v / 0x1000 * 16 + v % 16) 0

pub record Flips (c : Cartridge) (at : Console) (v : ℕ) : Type 0 where
  pub free : Accelerated c at → ⊥
  pub last : at.0 % 0x1000 ≡ 0xFFF
  pub chapter : v / 0x1000 ≡ at.0 / 0x1000
  pub key : v / 16 % 256 ≡ 0xA5
  pub acts : flip_asked c v / 8 % 2 ≡ 1
  pub allowed : 2 ≤ v / 0x1000

-- a write asks for half-page h, 8 paragraphs, and acts: $0040 + x for h = 2x, $0050 + x for h = 2x + 1, and the active BANKSW of its first
-- paragraph is set (02, W-202)
pub record Switches (c : Cartridge) (at : Console) (h : ℕ) : Type 0 where
  pub register : ((at.0 / 16 ≡ 4) × (h ≡ 2 * (at.0 % 16))) ⊎ ((at.0 / 16 ≡ 5) × (h ≡ 2 * (at.0 % 16) + 1))
  pub acts : get_or c.permissions (8 * h) 0 / 8 % 2 ≡ 1

-- the word that turns the accelerators on: $4A5A to $8033, where the JLP field is not 0
pub record TurnsOn (c : Cartridge) (at : Console) (v : ℕ) : Type 0 where
  pub there : at.0 ≡ 0x8033
  pub word : v ≡ 0x4A5A
  pub field : c.jlp.field ≡ 0 → ⊥

-- any other write: neither the accelerators' nor a flip nor a switch
pub record Ordinary (c : Cartridge) (at : Console) (v : ℕ) : Type 0 where
  pub free : Accelerated c at → ⊥
  pub no_turn : TurnsOn c at v → ⊥
  pub no_flip : Flips c at v → ⊥
  pub no_switch : (h : ℕ) → Switches c at h → ⊥

-- a table that keeps an entry, and one that keeps all
abbrev pub SameEntry : List ℕ → List ℕ → ℕ → Type 0
SameEntry before after p = get_or after p 0 ≡ get_or before p 0

-- what no write changes: the initial tables and the flip table
pub record Keeps (before after : Cartridge) : Type 0 where
  pub initial_mapping : after.initial_mapping ≡ before.initial_mapping
  pub initial_permissions : after.initial_permissions ≡ before.initial_permissions
  pub flips : after.flips ≡ before.flips

-- the active tables, the RAM and the flash are as they were
pub record KeepsTables (before after : Cartridge) : Type 0 where
  pub mapping : after.mapping ≡ before.mapping
  pub permissions : after.permissions ≡ before.permissions

pub record KeepsMemory (before after : World) : Type 0 where
  pub ram : after.ram ≡ before.ram
  pub flash : after.flash ≡ before.flash

-- a flip gives each paragraph k of the chapter the mapping (entry with its low four bits cleared) + k, and the entry's low three bits as
-- permissions; in chapter 4 only k = 8 to 15; all else stays, and it reports 16, or 8 in chapter 4 (02, W-212)
abbrev pub first_changed : ℕ → ℕ
first_changed x = cond (eqb x 4) 8 0

pub record Flipped (before after : World) (v : ℕ) (assigned : ℕ) : Type 0 where
  pub mapping : (p : ℕ) → p < length before.cartridge.mapping → p / 16 ≡ v / 0x1000 → first_changed (v / 0x1000) ≤ p % 16
      → get_or after.cartridge.mapping p 0 ≡ flip_asked before.cartridge v / 16 * 16 + p % 16
  pub permissions : (p : ℕ) → p < length before.cartridge.permissions → p / 16 ≡ v / 0x1000 → first_changed (v / 0x1000) ≤ p % 16
      → get_or after.cartridge.permissions p 0 ≡ flip_asked before.cartridge v % 8
  pub other_mapping : (p : ℕ) → (p / 16 ≡ v / 0x1000 → p % 16 < first_changed (v / 0x1000))
      → SameEntry before.cartridge.mapping after.cartridge.mapping p
  pub other_permissions : (p : ℕ) → (p / 16 ≡ v / 0x1000 → p % 16 < first_changed (v / 0x1000))
      → SameEntry before.cartridge.permissions after.cartridge.permissions p
  pub memory : KeepsMemory before after
  pub accelerators : after.cartridge.jlp ≡ before.cartridge.jlp
  pub reports : assigned ≡ 16 - first_changed (v / 0x1000)

-- a switch gives the half-page's eight paragraphs the value's low 8 bits and the seven numbers after it, going round from 255 to 0; every
-- permission and all else stays, and it reports 8
pub record Switched (before after : World) (h v : ℕ) (assigned : ℕ) : Type 0 where
  pub mapping : (p : ℕ) → p < length before.cartridge.mapping → p / 8 ≡ h → get_or after.cartridge.mapping p 0 ≡ (v % 256 + p % 8) % 256
  pub other_mapping : (p : ℕ) → (p / 8 ≡ h → ⊥) → SameEntry before.cartridge.mapping after.cartridge.mapping p
  pub permissions : after.cartridge.permissions ≡ before.cartridge.permissions
  pub memory : KeepsMemory before after
  pub accelerators : after.cartridge.jlp ≡ before.cartridge.jlp
  pub reports : assigned ≡ 8

-- the word that a store leaves: NARROW (bit 2) replaces the low 8 bits only
abbrev pub word_left : ℕ → ℕ → ℕ → ℕ
word_left permissions old v = cond (eqb (permissions / 4 % 2) 1) (old / 256 * 256 + v % 256) v

-- an ordinary write stores when WRITE (bit 1) is set and the location lies in the lent RAM; every other word stays, and every table and
-- the flash; it reports 0
pub record Stored (before after : World) (at : Console) (v : ℕ) (assigned : ℕ) : Type 0 where
  pub stores : entry_at before.cartridge.permissions at / 2 % 2 ≡ 1 → location_at before.cartridge at < lent before.ram
      → get_or after.ram (location_at before.cartridge at) 0
      ≡ word_left (entry_at before.cartridge.permissions at) (get_or before.ram (location_at before.cartridge at) 0) v
  pub elsewhere : (i : ℕ) → (i ≡ location_at before.cartridge at → ⊥) → get_or after.ram i 0 ≡ get_or before.ram i 0
  pub unwritten : (entry_at before.cartridge.permissions at / 2 % 2 ≡ 1 → ⊥) → after.ram ≡ before.ram
  pub unlent : lent before.ram ≤ location_at before.cartridge at → after.ram ≡ before.ram
  pub flash : after.flash ≡ before.flash
  pub tables : KeepsTables before.cartridge after.cartridge
  pub accelerators : after.cartridge.jlp ≡ before.cartridge.jlp
  pub reports : assigned ≡ 0

-- while on, a write to $8040-$9F7F stores all 16 bits at Locutus $10040-$11F7F, $8FFF too, whatever the tables say; every table stays
pub record StoredJlp (before after : World) (at : Console) (v : ℕ) (assigned : ℕ) : Type 0 where
  pub stores : at.0 + 0x8000 < lent before.ram → get_or after.ram (at.0 + 0x8000) 0 ≡ v
  pub elsewhere : (i : ℕ) → (i ≡ at.0 + 0x8000 → ⊥) → get_or after.ram i 0 ≡ get_or before.ram i 0
  pub flash : after.flash ≡ before.flash
  pub tables : KeepsTables before.cartridge after.cartridge
  pub accelerators : after.cartridge.jlp ≡ before.cartridge.jlp
  pub reports : assigned ≡ 0

-- reset copies the initial tables to the active ones, and keeps the flip table and the initial ones; RAM and flash keep their words; the
-- number of readable paragraphs is the count (02, W-211)
pub record WasReset (before after : World) : Type 0 where
  pub mapping : after.cartridge.mapping ≡ before.cartridge.initial_mapping
  pub permissions : after.cartridge.permissions ≡ before.cartridge.initial_permissions
  pub keeps : Keeps before.cartridge after.cartridge
  pub memory : KeepsMemory before after
  pub readable : after.cartridge.readable ≡ count (λ p. eqb (get_or after.cartridge.permissions p 0 % 2) 1) 256

-- while on, a write to any other address of $8000-$9FFF is a register's; so is the word that turns them on. It moves no table, and no RAM or
-- flash word but where one of the three flash commands is written ($802D, $802E, $802F: 02, W-209); it reports 0
pub record Latched (before after : World) (at : Console) (assigned : ℕ) : Type 0 where
  pub tables : KeepsTables before.cartridge after.cartridge
  pub memory : (at.0 < 0x802D) ⊎ (0x802F < at.0) → KeepsMemory before after
  pub reports : assigned ≡ 0

-- the state after a write of v to an address, and how many active mapping entries it says that it assigned
abbrev pub after_write : World → Console → ℕ → World
after_write w at v = step w (Write at v)

abbrev pub reported : World → Console → ℕ → ℕ
reported w at v = (written_of w.cartridge at v).assigned

-- reads, writes and resets
pub record Machine : Type 0 where
  -- a read gets the word w exactly when ..; otherwise silence
  pub hears : (c : Cartridge) (ram : List ℕ) (at : Console) (w : ℕ) → (Accelerated c at → ⊥) → (read_of c ram at ≡ Some w) ↔ Hears c ram at w
  pub hears_on : (c : Cartridge) (ram : List ℕ) (at : Console) (w : ℕ) → Accelerated c at
      → (read_of c ram at ≡ Some w) ↔ (HearsRam ram at w ⊎ HearsRegister c at w)
  -- every write is one of these, and leaves what it says
  pub flips : (w : World) (at : Console) (v : ℕ) → Flips w.cartridge at v → Flipped w (after_write w at v) v (reported w at v)
  pub switches : (w : World) (at : Console) (v h : ℕ) → Switches w.cartridge at h → Switched w (after_write w at v) h v (reported w at v)
  pub stores : (w : World) (at : Console) (v : ℕ) → Ordinary w.cartridge at v → Stored w (after_write w at v) at v (reported w at v)
  pub stores_on : (w : World) (at : Console) (v : ℕ) → Accelerated w.cartridge at → 0x8040 ≤ at.0 → at.0 ≤ 0x9F7F
      → StoredJlp w (after_write w at v) at v (reported w at v)
  pub latches : (w : World) (at : Console) (v : ℕ) → Accelerated w.cartridge at → (at.0 < 0x8040) ⊎ (0x9F7F < at.0)
      → Latched w (after_write w at v) at (reported w at v)
  pub turns_on : (w : World) (at : Console) (v : ℕ) → TurnsOn w.cartridge at v
      → Latched w (after_write w at v) at (reported w at v) × ((after_write w at v).cartridge.jlp.on ≡ true)
  pub keeps : (w : World) (at : Console) (v : ℕ) → Keeps w.cartridge (after_write w at v).cartridge
  pub resets : (w : World) → WasReset w (step w Reset)
