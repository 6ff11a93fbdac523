-- `exports::desk::luigi_salvage` meets its contract: it answers what the salvage answers.
use mathlib.Core.Path.{◌∙◌, ap}
use Rattle.recovery.specs.Salvage.{salvaging_from}
use Rattle.recovery.specs.Laws.Answers.{salvaging_back}
use Rattle.exports.specs.Desk.{salvaged_as}
use Rattle.exports.proofs.desk.luigi_salvage.Goals as goal

pub returns : goal.returns
returns c =
    let salvage = c.salvage in
    (c.salvaged_as.ensures ∙ ap salvaged_as (ap salvaging_from salvage.ensures.0 ∙ salvaging_back _ _), salvage.ensures.1)
