-- The flash's registers: what a read of one gets, what a write leaves in them, and which command it asks for (02, W-209; 000, JLP Flash).
use Rattle.std.specs.Prelude.{ℕ, ◌*◌, ◌-◌, [], ◌∷◌, Bool, not, ◌&&◌, leb, eqb, Option, Some, None}
use Rattle.basics.specs.Rows.{first_of}
use Rattle.places.specs.declared.Console.{Console}
use Rattle.places.specs.Places.{console}
use Rattle.flash.specs.declared.Command.{Command}
use Rattle.flash.specs.declared.Command.TheVariants.{Read, Write, Erase}
use Rattle.flash.specs.declared.Saves.{Saves}
use Rattle.flash.specs.Flash.{sector_rows, sector_limit}

-- JF.first and JF.last, which are read; JF.addr and JF.row, which are written; JF.wrcmd, JF.rdcmd and JF.ercmd, and the key of each
abbrev pub jf_first : ℕ
jf_first = 0x8023

abbrev pub jf_last : ℕ
jf_last = 0x8024

abbrev pub jf_addr : ℕ
jf_addr = 0x8025

abbrev pub jf_row : ℕ
jf_row = 0x8026

abbrev pub jf_wrcmd : ℕ
jf_wrcmd = 0x802D

abbrev pub jf_rdcmd : ℕ
jf_rdcmd = 0x802E

abbrev pub jf_ercmd : ℕ
jf_ercmd = 0x802F

abbrev pub jf_wrkey : ℕ
jf_wrkey = 0xC0DE

abbrev pub jf_rdkey : ℕ
jf_rdkey = 0xDEC0

abbrev pub jf_erkey : ℕ
jf_erkey = 0xBEEF

-- a size of 1 to 682 sectors gives flash; no other does: with 0 the registers are silent, and a load refuses a larger one with 13
unfoldable pub has_flash : ℕ → Bool
has_flash sectors = leb 1 sectors && leb sectors sector_limit

-- at load the address and row registers are 0
abbrev pub fresh_saves : ℕ → Saves
fresh_saves sectors = record { sectors = sectors; addr = 0; row = 0 }

-- the first row is 0, and the last 8 x sectors - 1
abbrev pub first_row : ℕ
first_row = 0

abbrev pub last_row : ℕ → ℕ
last_row sectors = sector_rows * sectors - 1

-- what a read gets: the first and the last row; the other registers are write_only
unfoldable pub flash_heard : Saves → Console → Option ℕ
flash_heard s at =
    first_of
    ((not (has_flash s.sectors), None)
    ∷ (eqb at.0 jf_first, Some first_row)
    ∷ (eqb at.0 jf_last, Some (last_row s.sectors))
    ∷ [])
    None

-- what a write leaves: the address and the row are kept, and nothing else is
unfoldable pub remembered : Saves → Console → ℕ → Saves
remembered s at v =
    first_of
    ((not (has_flash s.sectors), s)
    ∷ (eqb at.0 jf_addr, record { sectors = s.sectors; addr = v; row = s.row })
    ∷ (eqb at.0 jf_row, record { sectors = s.sectors; addr = s.addr; row = v })
    ∷ [])
    s

-- the command that a write asks for: its key, written to its register; its row and its address are those of the registers
unfoldable pub command_of : Saves → Console → ℕ → Option Command
command_of s at v =
    first_of
    ((not (has_flash s.sectors), None)
    ∷ (eqb at.0 jf_wrcmd && eqb v jf_wrkey, Some (Write s.row (console s.addr)))
    ∷ (eqb at.0 jf_rdcmd && eqb v jf_rdkey, Some (Read s.row (console s.addr)))
    ∷ (eqb at.0 jf_ercmd && eqb v jf_erkey, Some (Erase s.row))
    ∷ [])
    None
