-- `jlp::latches` meets its contract: its two tests are those of `latches`.
use Rattle.std.proofs.Common.{rules}
use Rattle.jlp.specs.Accelerators.{latches}
use Rattle.jlp.proofs.latches.Goals as goal

pub returns-then-not-in_ram : goal.returns-then-not-in_ram
unfolding latches
returns-then-not-in_ram c = search rules

pub returns-else-not-in_ram : goal.returns-else-not-in_ram
unfolding latches
returns-else-not-in_ram c = search rules
