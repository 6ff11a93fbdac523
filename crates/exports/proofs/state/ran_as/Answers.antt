-- `exports::state::ran_as` meets its contract: the state is the callee's.
use Rattle.exports.proofs.state.ran_as.Goals as goal

pub returns : goal.returns
returns c = rw c.state_of.ensures
