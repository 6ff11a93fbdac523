-- Where an access goes that need ask nobody before the RAM, and what it then hears or leaves (01, The machine; 02, W-202 and W-206).
use Rattle.std.specs.Prelude.{ℕ, ◌/◌, ◌%◌, Bool, true, false, cond, ◌&&◌, ◌||◌, List, eqb, Option, Some, None}
use Rattle.places.specs.declared.Console.{Console}
use Rattle.switches.specs.Flips.{Active}
use Rattle.jlp.specs.Window.{in_window, in_ram, on_at}
use Rattle.cart.specs.Cells.{cell_at, window_cell}
use Rattle.cart.specs.Reads.{silent, silence, heard, fetched}
use Rattle.cart.specs.Writes.{stored}
use Rattle.cart.specs.declared.Cell.{Cell}

-- where an access goes: somebody is to be asked first, nobody answers, or a word of the RAM
pub data Reach : Type 0 where
  Asked : Reach
  Nobody : Reach
  At : Cell → Reach

-- in the accelerators' window, while they are on: their RAM, or a register that is to be asked
abbrev pub window_reach : Console → Reach
window_reach at = cond (in_ram at) (At (window_cell at)) Asked

-- a read elsewhere goes by the tables
abbrev pub read_reach : Bool → Active → Console → Reach
read_reach on a at = cond (on && in_window at) (window_reach at) (cond (silent at) Nobody (At (cell_at a at)))

-- $0040-$005F, $xFFF and $8033: a write there can be a bankswitch, a page request, or the word that turns the accelerators on
unfoldable pub asks_more : Console → Bool
asks_more at = eqb (at.0 / 0x20) 2 || (eqb (at.0 % 0x1000) 0xFFF || eqb at.0 on_at)

-- a write to any other address is a store
abbrev pub write_reach : Bool → Active → Console → Reach
write_reach on a at = cond (on && in_window at) (window_reach at) (cond (asks_more at) Asked (At (cell_at a at)))

-- what a read hears there as one number, or none where somebody is to be asked
abbrev pub hears : Reach → List ℕ → Option ℕ
hears Asked ram = None
hears Nobody ram = Some silence
hears (At c) ram = Some (heard (fetched c ram))

-- whether a write is done there, and what it leaves of the RAM
abbrev pub is_done : Reach → Bool
is_done Asked = false
is_done Nobody = false
is_done (At c) = true

abbrev pub keeps : Reach → List ℕ → ℕ → List ℕ
keeps Asked ram v = ram
keeps Nobody ram v = ram
keeps (At c) ram v = stored c ram v
