-- What a line names: its addresses, its layer, and the line of a layer that holds an address (01, What a CFG may say).
use Rattle.std.specs.Prelude.{ℕ, ◌+◌, ◌-◌, suc, Bool, ◌&&◌, false, true, cond, List, [], ◌∷◌, leb, eqb}
use Rattle.std.proofs.Math.Option.{Option, none, some}
use Rattle.lines.specs.declared.Entry.{Entry}
use Rattle.lines.specs.declared.Entry.TheVariants.{Rom, Paged, Ram}
use Rattle.lines.specs.declared.Line.{Line}

-- the first and the last address that an entry names
abbrev pub first : Entry → ℕ
first (Rom lo hi at) = at.0
first (Paged lo hi at y) = at.0
first (Ram lo hi w) = lo.0

abbrev pub last : Entry → ℕ
last (Rom lo hi at) = at.0 + (hi.0 - lo.0)
last (Paged lo hi at y) = at.0 + (hi.0 - lo.0)
last (Ram lo hi w) = hi.0

unfoldable pub holds : Entry → ℕ → Bool
holds e a = leb (first e) a && leb a (last e)

-- plain entries are on layer 0, those of page y on layer 1 + y
abbrev pub layer : Entry → ℕ
layer (Rom lo hi at) = 0
layer (Paged lo hi at y) = suc y.0
layer (Ram lo hi w) = 0

abbrev pub is_ram : Entry → Bool
is_ram (Rom lo hi at) = false
is_ram (Paged lo hi at y) = false
is_ram (Ram lo hi w) = true

-- the line of a layer that holds an address
abbrev pub line_at : List Line → ℕ → ℕ → Option Line
line_at [] t a = none
line_at (l ∷ ls) t a = cond (eqb (layer l.entry) t && holds l.entry a) (some l) (line_at ls t a)
