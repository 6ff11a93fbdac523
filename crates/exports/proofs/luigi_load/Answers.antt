-- `exports::luigi_load` meets its contract: it answers what the load answers.
use mathlib.Core.Path.{◌∙◌, ap}
use Rattle.load.specs.Load.{loading_from}
use Rattle.load.specs.Laws.Answers.{loading_back}
use Rattle.exports.specs.Loads.{loaded_of}
use Rattle.exports.proofs.luigi_load.Goals as goal

pub returns : goal.returns
returns c =
    let load = c.load in
    (c.answered.ensures ∙ ap loaded_of (ap loading_from load.ensures.0 ∙ loading_back _ _ _), load.ensures.1)
