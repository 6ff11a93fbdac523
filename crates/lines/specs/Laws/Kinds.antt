-- A line by its kind: no entry has the kind 0, and there is a line where the kind is not 0.
use Rattle.std.specs.Prelude.{◌≡◌, refl, not, false, eqb}
use Rattle.std.proofs.Math.Option.{Option, none, some}
use Rattle.basics.specs.Options.{is_some}
use Rattle.lines.specs.declared.Entry.{Entry}
use Rattle.lines.specs.declared.Entry.TheVariants.{Rom, Paged, Ram}
use Rattle.lines.specs.declared.Line.{Line}
use Rattle.lines.specs.declared.Width.TheVariants.{Sixteen, Eight}
use Rattle.lines.specs.Kinds.{kind_by, kind_of}

pub kind_some : (e : Entry) → eqb (kind_by e) 0 ≡ false
kind_some (Rom lo hi at) = refl
kind_some (Paged lo hi at y) = refl
kind_some (Ram lo hi Sixteen) = refl
kind_some (Ram lo hi Eight) = refl

pub some_by : (o : Option Line) → is_some o ≡ not (eqb (kind_of o) 0)
some_by none = refl
some_by (some l) = rw (kind_some l.entry)
