-- `exports::state::luigi_write_by_value` meets its contract: it answers and leaves what a write by the state's own tables and words does.
use Rattle.exports.proofs.state.luigi_write_by_value.Goals as goal

pub returns : goal.returns
returns c =
    let left = c.write-assigned.ensures in
    (rw (c.with_active.ensures, left.0, left.1, left.2, left.3, left.4), left.5, left.6)
