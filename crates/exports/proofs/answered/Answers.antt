-- `exports::answered` meets its contract, case by case.
use Rattle.exports.proofs.answered.Goals as goal

pub returns-in-Ok : goal.returns-in-Ok
returns-in-Ok c = rw (c.in-Ok.is, c.laid.ensures, c.no_refusal.ensures)

pub returns-in-Err : goal.returns-in-Err
returns-in-Err c = rw (c.in-Err.is, c.laid-in-Err.ensures, c.no_cartridge.ensures, c.no_compat.ensures)
