-- A cartridge with a built image loaded: the layout's tables, over a RAM that holds the layout's words, and any flash.
use Rattle.std.specs.Prelude.{ℕ, ◌≤◌, ◌<◌, ◌*◌, ◌+◌, List, ◌≡◌, true, get_or}
use Rattle.places.specs.Limits.{lent}
use Rattle.cart.specs.Run.{World}
use Rattle.lines.specs.declared.Line.{Line}
use Rattle.layout.specs.Layout.{needed, covered, paragraph_words, cartridge_of}

-- a RAM that lends the words needed, and in each covered paragraph the words of its hunk; the rest of it is as it may be
pub record Loaded (bin : List ℕ) (lines : List Line) (ram : List ℕ) : Type 0 where
  pub room : needed lines ≤ lent ram
  pub words : (p i : ℕ) → covered lines p ≡ true → i < 256 → get_or ram (256 * p + i) 0 ≡ get_or (paragraph_words bin lines p) i 0

abbrev pub loaded : List Line → List ℕ → List ℕ → World
loaded lines flash ram = record { cartridge = cartridge_of lines; flash = flash; ram = ram }
