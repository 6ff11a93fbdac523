-- `jlp::turns_off` meets its contract: its two tests are those of `turns_off`.
use Rattle.std.proofs.Common.{rules}
use Rattle.basics.specs.Laws.Tests.{tests}
use Rattle.jlp.specs.Accelerators.{turns_off}
use Rattle.jlp.proofs.turns_off.Goals as goal

pub returns-then-at-eq-OFF_AT : goal.returns-then-at-eq-OFF_AT
unfolding turns_off
returns-then-at-eq-OFF_AT c = search (rules, tests)

pub returns-else-at-eq-OFF_AT : goal.returns-else-at-eq-OFF_AT
unfolding turns_off
returns-else-at-eq-OFF_AT c = search (rules, tests)
