-- `exports::luigi_build` meets its contract: it answers what the build answers.
use mathlib.Core.Path.{◌∙◌, ap}
use Rattle.build.specs.Building.{building_from}
use Rattle.build.specs.Laws.Outcome.{building_back}
use Rattle.exports.specs.Builds.{built_as}
use Rattle.exports.proofs.luigi_build.Goals as goal

pub returns : goal.returns
returns c =
    let build = c.build in
    (c.built_as.ensures ∙ ap (λ r. built_as (building_from r)) build.ensures.0 ∙ ap built_as (building_back _ _ _ _), build.ensures.1)
