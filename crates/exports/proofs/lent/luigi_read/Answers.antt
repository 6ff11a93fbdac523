-- `exports::lent::luigi_read` meets its contract: the short way where nobody is to be asked, else the long one.
use Rattle.switches.specs.Flips.{active}
use Rattle.registers.specs.Words.{jlp_from}
use Rattle.exports.specs.Laws.Runs.{heard_direct}
use Rattle.exports.proofs.lent.luigi_read.Goals as goal

pub returns-in-Some : goal.returns-in-Some
returns-in-Some c =
    let given = c.args in
    heard_direct (jlp_from given.accelerators.now) (active given.mapping.now given.permissions.now) _ given.ram.now _ _ _
    c.is_on-on.ensures c.hear.ensures c.in-Some.is
