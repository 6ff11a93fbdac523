-- `exports::active_as` meets its contract: the words are the callee's.
use Rattle.exports.proofs.active_as.Goals as goal

pub returns : goal.returns
returns c = rw c.words_of-accelerators.ensures
