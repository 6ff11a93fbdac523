-- The addresses of a line as their type holds them: the console has 65,536 (01, What a CFG may say: one to four hex digits).
use Rattle.std.specs.Prelude.{◌<◌, List, [], ◌∷◌}
use Rattle.lines.specs.declared.Entry.{Entry}
use Rattle.lines.specs.declared.Entry.TheVariants.{Rom, Paged, Ram}
use Rattle.lines.specs.declared.Line.{Line}

abbrev pub Typed : Entry → Type 0
Typed (Rom lo hi at) = at.0 < 0x10000
Typed (Paged lo hi at y) = at.0 < 0x10000
Typed (Ram lo hi w) = (lo.0 < 0x10000) × (hi.0 < 0x10000)

-- each line's entry is so
pub data All (P : Entry → Type 0) : List Line → Type 0 where
  nil : All P []
  cons : {l : Line} {ls : List Line} → P l.entry → All P ls → All P (l ∷ ls)
