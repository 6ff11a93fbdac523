-- The word of RAM that an address reaches: its location, and what may be done with it (01, The machine; 02, W-206).
use Rattle.std.specs.Prelude.{ℕ, ◌+◌, ◌*◌, ◌/◌, ◌%◌, Bool, true, false, List, ◌==◌, nat_lt, slice_index}
use Rattle.places.specs.declared.Console.{Console}
use Rattle.places.specs.declared.Locutus.{Locutus}
use Rattle.places.specs.Limits.{lent, lent_limit, paragraph_size}
use Rattle.places.specs.Places.{locutus}
use Rattle.switches.specs.Flips.{Active}
use Rattle.jlp.specs.Window.{ram_location}
use Rattle.cart.specs.declared.Rights.{Rights}
use Rattle.cart.specs.declared.Cell.{Cell}

-- the bits of a permission byte (001, Permissions Table)
abbrev pub READ : ℕ → Bool
READ x = x % 2 == 1

abbrev pub WRITE : ℕ → Bool
WRITE x = x / 2 % 2 == 1

abbrev pub NARROW : ℕ → Bool
NARROW x = x / 4 % 2 == 1

abbrev pub rights_of : ℕ → Rights
rights_of x = record { read = READ x; write = WRITE x; narrow = NARROW x }

-- the paragraph of an address, and where a mapping entry puts an address: modulo 2^19, the words that can be lent
abbrev pub paragraph : Console → ℕ
paragraph at = at.0 / paragraph_size

abbrev pub locate : ℕ → Console → Locutus
locate entry at = locutus ((entry * paragraph_size + at.0 % paragraph_size) % lent_limit)

-- the word that an address reaches by the active tables
abbrev pub cell_at : Active → Console → Cell
cell_at a at =
    record {
      location = locate (slice_index a.mapping (paragraph at)) at;
      rights = rights_of (slice_index a.permissions (paragraph at));
    }

-- the word of JLP RAM at an address: all 16 bits, read and written whatever the tables say (02, W-206)
abbrev pub window_cell : Console → Cell
window_cell at = record { location = ram_location at; rights = record { read = true; write = true; narrow = false } }

-- a location lies in the lent RAM
abbrev pub lies : Locutus → List ℕ → Bool
lies l ram = nat_lt l.0 (lent ram)
