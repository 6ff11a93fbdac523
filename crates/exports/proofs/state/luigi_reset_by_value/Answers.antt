-- `exports::state::luigi_reset_by_value` meets its contract: the state of the cartridge after its reset.
use Rattle.exports.proofs.state.luigi_reset_by_value.Goals as goal

pub returns : goal.returns
returns c = rw (c.state_of.ensures, c.reset.ensures, c.cartridge_from.ensures)
