-- `owners::no_owners` meets its contract.
use Rattle.owners.specs.Owners.{owners_of}
use Rattle.owners.specs.Laws.Owners.{nobody}
use Rattle.owners.proofs.no_owners.Goals as goal

pub returns : goal.returns
unfolding owners_of
returns c = rw (← nobody 256)
