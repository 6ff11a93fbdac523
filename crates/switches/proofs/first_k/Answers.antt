-- `switches::first_k` meets its contract.
use Rattle.std.proofs.Common.{arith}
use Rattle.basics.specs.Laws.Tests.{tests}
use Rattle.switches.proofs.first_k.Goals as goal

pub returns-then-x-eq4 : goal.returns-then-x-eq4
returns-then-x-eq4 c = search (tests, arith)

pub returns-else-x-eq4 : goal.returns-else-x-eq4
returns-else-x-eq4 c = search (tests, arith)
