-- The writer's marks as C lends them, and its answer as C lays it out (01, How an image is laid out by the builder; Numbers that come back).
use Rattle.std.specs.Prelude.{ℕ, Bool, not, List, eqb, get_or}
use Rattle.basics.specs.Tables.{table}
use Rattle.places.specs.Limits.{locutus_paragraphs}
use Rattle.save.specs.Writing.{Writing}
use Rattle.exports.specs.declared.writer.WrittenImage.{WrittenImage}

-- a mark for every byte but 0
abbrev pub marks_from : List ℕ → List Bool
marks_from bytes = table locutus_paragraphs (λ p. not (eqb (get_or bytes p 0) 0))

abbrev pub image_as : Writing → WrittenImage
image_as w = record { number = w.refusal.number; place = w.refusal.place; length = w.length }
