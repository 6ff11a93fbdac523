-- Runs of bus accesses whose addresses and values stand in lists (01, The machine).
use Rattle.std.specs.Prelude.{ℕ, min, zero, suc, List, [], ◌++◌, ◌∷◌, get_or, length}
use Rattle.basics.specs.Lists.{laid}
use Rattle.places.specs.declared.Console.{Console}
use Rattle.places.specs.Places.{console}
use Rattle.switches.specs.Flips.{active}
use Rattle.jlp.specs.declared.Jlp.{Jlp}
use Rattle.cart.specs.declared.Cartridge.{Cartridge}
use Rattle.cart.specs.Reads.{heard, read_by}
use Rattle.cart.specs.Writes.{assigned}
use Rattle.cart.specs.Cartridges.{assembled, active_of}
use Rattle.cart.specs.Run.{Access, Write, World, after}
use Rattle.exports.specs.declared.Active.{Active}
use Rattle.registers.specs.Words.{words_of}

-- the tables that act, how many paragraphs can be read, and the accelerators
abbrev pub active_as : Cartridge → Active
active_as c = record { mapping = c.mapping; permissions = c.permissions; readable = c.readable; accelerators = words_of c.jlp }

-- a cartridge of lent tables, that keeps this number of readable paragraphs and these accelerators
abbrev pub carried : List ℕ → List ℕ → List ℕ → ℕ → Jlp → Cartridge
carried mapping permissions flips readable j = assembled (active mapping permissions) (active mapping permissions) flips readable j

abbrev pub address : List ℕ → ℕ → Console
address at i = console (get_or at i 0)

-- the answers to reads at the first n addresses, laid over the first n words of a buffer
unfoldable pub answered : Jlp → List ℕ → List ℕ → List ℕ → List ℕ → ℕ → List ℕ → List ℕ
answered j mapping permissions ram at n out = laid 0 n (λ i. heard (read_by j (active mapping permissions) ram (address at i))) out

-- as many answers as there are both addresses and places for them
abbrev pub answers_in : Jlp → List ℕ → List ℕ → List ℕ → List ℕ → List ℕ → List ℕ
answers_in j mapping permissions ram at out = answered j mapping permissions ram at (min (length at) (length out)) out

-- the first n writes
unfoldable pub writes : List ℕ → List ℕ → ℕ → List Access
writes at v zero = []
writes at v (suc n) = writes at v n ++ (Write (address at n) (get_or v n 0) ∷ [])

-- what the first n writes leave
unfoldable pub written : Cartridge → List ℕ → List ℕ → List ℕ → List ℕ → ℕ → World
written c ram flash at v n = after (record { cartridge = c; flash = flash; ram = ram }) (writes at v n)

-- so many active mapping entries write i assigns, after those before it
abbrev pub assigned_at : Cartridge → List ℕ → List ℕ → List ℕ → List ℕ → ℕ → ℕ
assigned_at c ram flash at v i =
    assigned (written c ram flash at v i).cartridge.jlp (active_of (written c ram flash at v i).cartridge) (written c ram flash at v i).cartridge.flips (address at i) (get_or v i 0)

-- those numbers of the first n writes, laid over the first n bytes of a buffer
unfoldable pub numbered : Cartridge → List ℕ → List ℕ → List ℕ → List ℕ → ℕ → List ℕ → List ℕ
numbered c ram flash at v n out = laid 0 n (assigned_at c ram flash at v) out

-- as many writes as there are addresses and values, and places for their numbers
abbrev pub numbered_writes : List ℕ → List ℕ → List ℕ → ℕ
numbered_writes at v out = min (min (length at) (length v)) (length out)

-- what so many writes leave
abbrev pub active_after : Cartridge → List ℕ → List ℕ → List ℕ → List ℕ → ℕ → Active
active_after c ram flash at v n = active_as (written c ram flash at v n).cartridge

abbrev pub ram_after : Cartridge → List ℕ → List ℕ → List ℕ → List ℕ → ℕ → List ℕ
ram_after c ram flash at v n = (written c ram flash at v n).ram

abbrev pub flash_after : Cartridge → List ℕ → List ℕ → List ℕ → List ℕ → ℕ → List ℕ
flash_after c ram flash at v n = (written c ram flash at v n).flash
