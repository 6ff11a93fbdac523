-- `exports::state::state_of` meets its contract: the words are the callee's.
use Rattle.exports.proofs.state.state_of.Goals as goal

pub returns : goal.returns
returns c = rw c.words_of-accelerators.ensures
