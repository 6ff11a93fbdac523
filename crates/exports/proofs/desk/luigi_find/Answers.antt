-- `exports::desk::luigi_find` meets its contract: it answers what the lookup answers.
use mathlib.Core.Path.{◌∙◌, ap}
use Rattle.exports.specs.Desk.{found_as}
use Rattle.exports.proofs.desk.luigi_find.Goals as goal

pub returns : goal.returns
returns c = c.found_as.ensures ∙ ap found_as c.find.ensures
