-- A read: who answers, then what (01, The machine; 02, W-206).
use Rattle.std.specs.Prelude.{ℕ, ◌/◌, Bool, cond, ◌&&◌, ◌||◌, List, ◌==◌, nat_lt, slice_index, Option, Some, None}
use Rattle.places.specs.declared.Console.{Console}
use Rattle.switches.specs.Flips.{Active}
use Rattle.jlp.specs.declared.Jlp.{Jlp}
use Rattle.jlp.specs.Window.{in_window, in_ram}
use Rattle.jlp.specs.Accelerators.{heard_at}
use Rattle.cart.specs.declared.Cell.{Cell}
use Rattle.cart.specs.declared.Source.{Source}
use Rattle.cart.specs.declared.Source.TheVariants.{Nobody, Latched, Ram}
use Rattle.cart.specs.Cells.{cell_at, window_cell, lies}

-- $0000-$04FF, $1000-$1FFF and $3000-$3FFF are silent
unfoldable pub silent : Console → Bool
silent at = nat_lt at.0 0x500 || at.0 / 0x1000 == 1 || at.0 / 0x1000 == 3

-- in the accelerators' window: their RAM, or a register that answers, or nobody
abbrev pub register_source : Option ℕ → Source
register_source (Some w) = Latched w
register_source None = Nobody

abbrev pub window_source : Jlp → Console → Source
window_source j at = cond (in_ram at) (Ram (window_cell at)) (register_source (heard_at j at))

-- the cartridge by its active tables
abbrev pub mapped_source : Active → Console → Source
mapped_source a at = cond (silent at) Nobody (Ram (cell_at a at))

-- who answers a read: in their window the accelerators, while they are on
abbrev pub source_of : Jlp → Active → Console → Source
source_of j a at = cond (j.on && in_window at) (window_source j at) (mapped_source a at)

-- a cell answers when READ is set and its location lies in the lent RAM
unfoldable pub fetched : Cell → List ℕ → Option ℕ
fetched c ram = cond (c.rights.read && lies c.location ram) (Some (slice_index ram c.location.0)) None

-- what each source gives
abbrev pub given_by : Source → List ℕ → Option ℕ
given_by Nobody ram = None
given_by (Latched w) ram = Some w
given_by (Ram c) ram = fetched c ram

unfoldable pub read_by : Jlp → Active → List ℕ → Console → Option ℕ
read_by j a ram at = given_by (source_of j a at) ram

-- an answer as one number: a word as it is, silence above every word
abbrev pub silence : ℕ
silence = 0x10000

abbrev pub heard : Option ℕ → ℕ
heard (Some w) = w
heard None = silence
