-- `exports::state::luigi_state` meets its contract: the state of the fresh cartridge.
use mathlib.Core.Path.{◌∙◌, ap}
use Rattle.exports.specs.States.{state_of}
use Rattle.exports.proofs.state.luigi_state.Goals as goal

pub returns : goal.returns
returns c = c.state_of.ensures ∙ ap state_of c.fresh.ensures
