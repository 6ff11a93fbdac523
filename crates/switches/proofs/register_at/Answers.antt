-- `switches::register_at` meets its contract: each arm is a row of `register_at`.
use Rattle.basics.specs.Laws.Tests.{tests}
use Rattle.switches.specs.Banks.{register_at}
use Rattle.switches.proofs.register_at.Goals as goal

pub returns-in-4 : goal.returns-in-4
unfolding register_at
returns-in-4 c = search tests

pub returns-in-5 : goal.returns-in-5
unfolding register_at
returns-in-5 c = rw c.in-5.is

pub returns-in_default : goal.returns-in_default
unfolding register_at
returns-in_default c = search tests
