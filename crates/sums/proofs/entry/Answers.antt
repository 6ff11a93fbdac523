-- `sums::entry` meets its contract: the place that it reads is the definition's.
use Rattle.sums.specs.Tables.{entry_at}
use Rattle.sums.proofs.entry.Goals as goal

pub returns : goal.returns
unfolding entry_at
returns c = rw c.from.ensures
