-- `exports::state::cartridge_from` meets its contract: the accelerators are those of the words.
use Rattle.exports.proofs.state.cartridge_from.Goals as goal

pub returns : goal.returns
returns c = rw c.jlp_from.ensures
