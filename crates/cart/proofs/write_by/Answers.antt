-- `cart::write_by` meets its contract: who takes the write is decided once, and what it leaves goes by the taker found.
use Rattle.cart.specs.Laws.Writes.{writes}
use Rattle.cart.proofs.Laws.{given}
use Rattle.cart.proofs.write_by.Goals as goal

pub returns-in-Ram : goal.returns-in-Ram
returns-in-Ram c = search writes

pub returns-in-Accelerators : goal.returns-in-Accelerators
returns-in-Accelerators c = search writes

pub returns-in-Bank : goal.returns-in-Bank
returns-in-Bank c = search given

pub returns-in-Flip : goal.returns-in-Flip
returns-in-Flip c = search given
