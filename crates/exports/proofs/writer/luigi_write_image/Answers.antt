-- `exports::writer::luigi_write_image` meets its contract: it answers what the writer answers, with the marks of the bytes.
use mathlib.Core.Path.{◌∙◌, ap}
use Rattle.save.specs.Writing.{saving_from}
use Rattle.save.proofs.Theorems.Refusals.{saving_back}
use Rattle.exports.specs.Images.{image_as}
use Rattle.exports.proofs.writer.luigi_write_image.Goals as goal

pub returns : goal.returns
returns c =
    let write = c.write in
    let from = c.marks_from-m.ensures in
    (rw from at (c.image_as.ensures ∙ ap image_as (ap saving_from write.ensures.0 ∙ saving_back _ _)), rw from at write.ensures.1)
