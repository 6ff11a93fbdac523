-- The cartridge: the initial and the active tables, the flip table, the readable paragraphs and the accelerators; what it answers, and
-- what a write and a reset leave of it (01, The machine; 02, W-206, W-209 and W-211).
use Rattle.std.specs.Prelude.{ℕ, List, replicate, Option}
use Rattle.places.specs.declared.Console.{Console}
use Rattle.places.specs.Limits.{paragraphs, flip_entries}
use Rattle.switches.specs.Flips.{Active, active}
use Rattle.jlp.specs.declared.Jlp.{Jlp}
use Rattle.jlp.specs.Accelerators.{fresh_jlp, reset_jlp, written_jlp}
use Rattle.cart.specs.declared.Cartridge.{Cartridge}
use Rattle.cart.specs.declared.Written.{Written}
use Rattle.cart.specs.Readable.{readable_of}
use Rattle.cart.specs.Reads.{read_by}
use Rattle.cart.specs.Writes.{leaves, leaves_ram, leaves_flash, assigned, leaves_readable}

-- a cartridge of these tables, that keeps this number of readable paragraphs and these accelerators: every cartridge is made here
abbrev pub assembled : Active → Active → List ℕ → ℕ → Jlp → Cartridge
assembled initial now flips readable jlp =
    record {
      initial_mapping = initial.mapping;
      initial_permissions = initial.permissions;
      mapping = now.mapping;
      permissions = now.permissions;
      flips = flips;
      readable = readable;
      jlp = jlp;
    }

-- its initial and its active tables
abbrev pub initial_of : Cartridge → Active
initial_of c = active c.initial_mapping c.initial_permissions

abbrev pub active_of : Cartridge → Active
active_of c = active c.mapping c.permissions

-- as loaded with these accelerators: the active tables are the initial ones
abbrev pub fresh : Jlp → List ℕ → List ℕ → List ℕ → Cartridge
fresh jlp mapping permissions flips =
    assembled (active mapping permissions) (active mapping permissions) flips (readable_of permissions) jlp

-- with other active tables, this number of readable paragraphs, and these accelerators
abbrev pub with_active : Cartridge → Active → ℕ → Jlp → Cartridge
with_active c a readable jlp = assembled (initial_of c) a c.flips readable jlp

-- a read, a write, and what it leaves of the RAM and of the flash; the accelerators go by their own law, whoever takes the write
abbrev pub read_of : Cartridge → List ℕ → Console → Option ℕ
read_of c ram at = read_by c.jlp (active_of c) ram at

abbrev pub write_of : Cartridge → Console → ℕ → Cartridge
write_of c at v =
    with_active c (leaves c.jlp (active_of c) c.flips at v) (leaves_readable c.jlp (active_of c) c.flips c.readable at v)
    (written_jlp c.jlp at v)

-- what `write` answers: the cartridge, and how many active mapping entries were assigned (02, W-212)
abbrev pub written_of : Cartridge → Console → ℕ → Written
written_of c at v = record { cartridge = write_of c at v; assigned = assigned c.jlp (active_of c) c.flips at v }

abbrev pub write_ram_of : Cartridge → List ℕ → List ℕ → Console → ℕ → List ℕ
write_ram_of c flash ram at v = leaves_ram c.jlp (active_of c) c.flips flash ram at v

abbrev pub write_flash_of : Cartridge → List ℕ → List ℕ → Console → ℕ → List ℕ
write_flash_of c flash ram at v = leaves_flash c.jlp (active_of c) c.flips flash ram at v

-- reset copies the initial tables to the active ones, and counts; the accelerators go on or off by the field
abbrev pub reset_of : Cartridge → Cartridge
reset_of c = with_active c (initial_of c) (readable_of c.initial_permissions) (reset_jlp c.jlp)

-- the cartridge of a refused load
abbrev pub no_cartridge : Cartridge
no_cartridge = fresh (fresh_jlp 0 0) (replicate paragraphs 0) (replicate paragraphs 0) (replicate flip_entries 0)
