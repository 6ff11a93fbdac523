-- `cart::read_by` meets its contract: who answers is decided once, and the answer goes by the source found.
use Rattle.cart.specs.Laws.Reads.{by_source}
use Rattle.cart.proofs.read_by.Goals as goal

pub returns-in-Nobody : goal.returns-in-Nobody
returns-in-Nobody c = search by_source

pub returns-in-Latched : goal.returns-in-Latched
returns-in-Latched c = search by_source

pub returns-in-Ram : goal.returns-in-Ram
returns-in-Ram c = search by_source
