-- `switches::asked` meets its contract: its tests are those of `asks`.
use Rattle.std.proofs.Common.{rules}
use Rattle.basics.specs.Laws.Tests.{tests}
use Rattle.switches.specs.Flips.{asks}
use Rattle.switches.proofs.asked.Goals as goal

pub returns-then-v-eq165 : goal.returns-then-v-eq165
unfolding asks
returns-then-v-eq165 c = search tests

pub returns-else-a-eq4095 : goal.returns-else-a-eq4095
unfolding asks
returns-else-a-eq4095 c = search (rules, tests)
