-- The kind of the words that a line declares, by the permission that shows them: ROM 1, RAM 16 3, RAM 8 7, and 0 where no line
-- is (01, How an image is laid out by the builder).
use Rattle.std.specs.Prelude.{ℕ}
use Rattle.std.proofs.Math.Option.{Option, none, some}
use Rattle.lines.specs.declared.Entry.{Entry}
use Rattle.lines.specs.declared.Entry.TheVariants.{Rom, Paged, Ram}
use Rattle.lines.specs.declared.Line.{Line}
use Rattle.lines.specs.declared.Width.TheVariants.{Sixteen, Eight}

abbrev pub kind_by : Entry → ℕ
kind_by (Rom lo hi at) = 1
kind_by (Paged lo hi at y) = 1
kind_by (Ram lo hi Sixteen) = 3
kind_by (Ram lo hi Eight) = 7

abbrev pub kind_of : Option Line → ℕ
kind_of none = 0
kind_of (some l) = kind_by l.entry
