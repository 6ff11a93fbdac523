-- `jlp::turns_on` meets its contract: its tests are those of `turns_on`.
use Rattle.std.proofs.Common.{rules}
use Rattle.basics.specs.Laws.Tests.{tests}
use Rattle.jlp.specs.Accelerators.{turns_on}
use Rattle.jlp.proofs.turns_on.Goals as goal

pub returns-then-value-eq-ON_WORD : goal.returns-then-value-eq-ON_WORD
unfolding turns_on
returns-then-value-eq-ON_WORD c = search (rules, tests)

pub returns-else-value-eq-ON_WORD : goal.returns-else-value-eq-ON_WORD
unfolding turns_on
returns-else-value-eq-ON_WORD c = search (rules, tests)
