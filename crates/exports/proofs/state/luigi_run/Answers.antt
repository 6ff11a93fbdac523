-- `exports::state::luigi_run` meets its contract: it answers and leaves what the run does from the cartridge of the state.
use mathlib.Core.Path.{◌∙◌, ap}
use Rattle.exports.specs.States.{ran_as}
use Rattle.exports.proofs.state.luigi_run.Goals as goal

pub returns : goal.returns
returns c =
    let run = c.run in
    let from = c.cartridge_from.ensures in
    (rw from at (c.ran_as.ensures ∙ ap ran_as run.ensures.0), rw from at run.ensures.1, rw from at run.ensures.2, rw from at run.ensures.3)
