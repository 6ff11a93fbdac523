-- `exports::desk::luigi_unbuild` meets its contract: it answers what going back answers.
use mathlib.Core.Path.{◌∙◌, ap}
use Rattle.exports.specs.Desk.{unbuilt_as}
use Rattle.exports.proofs.desk.luigi_unbuild.Goals as goal

pub returns : goal.returns
returns c =
    let unbuild = c.unbuild in
    (c.unbuilt_as.ensures ∙ ap unbuilt_as unbuild.ensures.0, unbuild.ensures.1, unbuild.ensures.2)
