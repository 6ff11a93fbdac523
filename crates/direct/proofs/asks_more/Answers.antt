-- `direct::asks_more` meets its contract: its tests are those of `asks_more`.
use Rattle.std.proofs.Common.{rules}
use Rattle.basics.specs.Laws.Tests.{tests}
use Rattle.direct.specs.Direct.{asks_more}
use Rattle.direct.proofs.asks_more.Goals as goal

pub returns-then-a-eq4095 : goal.returns-then-a-eq4095
unfolding asks_more
returns-then-a-eq4095 c = search (rules, tests)

pub returns-else-a-eq4095 : goal.returns-else-a-eq4095
unfolding asks_more
returns-else-a-eq4095 c = search (rules, tests)
