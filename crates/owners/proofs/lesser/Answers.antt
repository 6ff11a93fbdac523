-- `owners::lesser` meets its contract.
use Rattle.basics.specs.Laws.Tests.{tests}
use Rattle.owners.proofs.Loops.{lesser_min}
use Rattle.owners.proofs.lesser.Goals as goal

pub returns-then-m-eq0 : goal.returns-then-m-eq0
returns-then-m-eq0 c = search tests

pub returns-then-n-eq0 : goal.returns-then-n-eq0
returns-then-n-eq0 c = search tests

pub returns : goal.returns
returns c = search lesser_min
