-- `jlp::read` meets its contract: the accelerators are off, or a register is asked.
use Rattle.std.proofs.Common.{rules}
use Rattle.jlp.specs.Accelerators.{heard_at}
use Rattle.jlp.proofs.read.Goals as goal

pub returns-then-j : goal.returns-then-j
unfolding heard_at
returns-then-j c = search rules

pub returns-else-j : goal.returns-else-j
unfolding heard_at
returns-else-j c = search rules
