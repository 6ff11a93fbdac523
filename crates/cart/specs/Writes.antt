-- A write: who takes it, then what it leaves of the active tables, of the RAM and of the flash (01, The machine; 02, W-202, W-206, W-209, W-211
-- and W-212).
use Rattle.std.specs.Prelude.{ℕ, ◌+◌, ◌*◌, ◌/◌, ◌%◌, Bool, cond, ◌&&◌, List, slice_index, slice_set, Option, Some, None}
use Rattle.places.specs.declared.Console.{Console}
use Rattle.switches.specs.Flips.{Active, asks, acts, flip_from, flip_size, flipped}
use Rattle.switches.specs.Banks.{half_page_paragraphs, register_at, banked, bankswitched}
use Rattle.flash.specs.declared.Saves.{Saves}
use Rattle.flash.specs.Flash.{Memories, memories, acted}
use Rattle.flash.specs.Registers.{command_of}
use Rattle.jlp.specs.declared.Jlp.{Jlp}
use Rattle.jlp.specs.Window.{in_ram}
use Rattle.jlp.specs.Accelerators.{takes}
use Rattle.cart.specs.declared.Cell.{Cell}
use Rattle.cart.specs.declared.Taker.{Taker}
use Rattle.cart.specs.declared.Taker.TheVariants.{Accelerators, Bank, Flip, Ram}
use Rattle.cart.specs.Cells.{cell_at, window_cell, lies}
use Rattle.cart.specs.Readable.{readable_in, recounted}

-- in the accelerators' window a write is their RAM's, or one to their registers
abbrev pub window_taker : Console → Taker
window_taker at = cond (in_ram at) (Ram (window_cell at)) Accelerators

-- a write that the accelerators take goes to their window; any other is the next taker's
abbrev pub jlp_taker : Jlp → Console → ℕ → Taker → Taker
jlp_taker j at v next = cond (takes j at v) (window_taker at) next

-- a write to the register of a half-page that may be switched is that half-page's, by the value's low 8 bits; any other is the next taker's
abbrev pub bank_taker : List ℕ → Option ℕ → ℕ → Taker → Taker
bank_taker permissions (Some p) v next = cond (banked permissions p) (Bank p (v % 256)) next
bank_taker permissions None v next = next

-- a request that acts is its flip entry's; any other write is the next taker's
abbrev pub flip_taker : List ℕ → Option ℕ → Taker → Taker
flip_taker flips (Some n) next = cond (acts flips n) (Flip n) next
flip_taker flips None next = next

-- who takes a write by the active tables and the flip table: the first that it asks, else the word that the address reaches
abbrev pub mapped_taker : Active → List ℕ → Console → ℕ → Taker
mapped_taker a flips at v = bank_taker a.permissions (register_at at) v (flip_taker flips (asks at v) (Ram (cell_at a at)))

-- who takes a write: before all others the accelerators
abbrev pub taker_of : Jlp → Active → List ℕ → Console → ℕ → Taker
taker_of j a flips at v = jlp_taker j at v (mapped_taker a flips at v)

-- the word that a store leaves: NARROW replaces the low 8 bits only
abbrev pub stored_word : Bool → ℕ → ℕ → ℕ
stored_word narrow old v = cond narrow (old / 256 * 256 + v % 256) v

-- a cell stores when WRITE is set and its location lies in the lent RAM
unfoldable pub stored : Cell → List ℕ → ℕ → List ℕ
stored c ram v =
    cond (c.rights.write && lies c.location ram)
    (slice_set ram c.location.0 (stored_word c.rights.narrow (slice_index ram c.location.0) v))
    ram

-- what each taker leaves of the active tables, by the flip table
abbrev pub left_by : Taker → Active → List ℕ → Active
left_by Accelerators a flips = a
left_by (Bank p first) a flips = bankswitched p first a
left_by (Flip n) a flips = flipped flips n a
left_by (Ram c) a flips = a

-- and of the lent memories, by the flash's registers: a command acts on them, only the RAM stores (02, W-209)
abbrev pub memories_by : Taker → Saves → Memories → Console → ℕ → Memories
memories_by Accelerators s m at v = acted s.sectors m (command_of s at v)
memories_by (Bank p first) s m at v = m
memories_by (Flip n) s m at v = m
memories_by (Ram c) s m at v = memories m.flash (stored c m.ram v)

-- how many active mapping entries each taker assigns, whatever they held before (02, W-212)
abbrev pub assigned_by : Taker → ℕ
assigned_by Accelerators = 0
assigned_by (Bank p first) = half_page_paragraphs
assigned_by (Flip n) = flip_size n
assigned_by (Ram c) = 0

-- what each taker leaves of the number of readable paragraphs that is kept: only a flip changes it (02, W-211)
abbrev pub readable_by : Taker → Active → List ℕ → ℕ → ℕ
readable_by Accelerators a flips kept = kept
readable_by (Bank p first) a flips kept = kept
readable_by (Flip n) a flips kept =
    recounted kept (readable_in a.permissions (flip_from n) (flip_size n)) (readable_in (flipped flips n a).permissions (flip_from n) (flip_size n))
readable_by (Ram c) a flips kept = kept

-- what a write leaves, and how many active mapping entries it assigned
unfoldable pub leaves : Jlp → Active → List ℕ → Console → ℕ → Active
leaves j a flips at v = left_by (taker_of j a flips at v) a flips

unfoldable pub leaves_ram : Jlp → Active → List ℕ → List ℕ → List ℕ → Console → ℕ → List ℕ
leaves_ram j a flips flash ram at v = (memories_by (taker_of j a flips at v) j.saves (memories flash ram) at v).ram

unfoldable pub leaves_flash : Jlp → Active → List ℕ → List ℕ → List ℕ → Console → ℕ → List ℕ
leaves_flash j a flips flash ram at v = (memories_by (taker_of j a flips at v) j.saves (memories flash ram) at v).flash

unfoldable pub assigned : Jlp → Active → List ℕ → Console → ℕ → ℕ
assigned j a flips at v = assigned_by (taker_of j a flips at v)

unfoldable pub leaves_readable : Jlp → Active → List ℕ → ℕ → Console → ℕ → ℕ
leaves_readable j a flips kept at v = readable_by (taker_of j a flips at v) a flips kept
