-- `hunk::choice::can_carry` meets its contract: its tests are the definition's.
use Rattle.std.proofs.Common.{rules, tests}
use Rattle.hunk.proofs.Chosen.{carry_in, carry_out}
use Rattle.hunk.proofs.choice.can_carry.Goals as goal

pub returns-then-contains : goal.returns-then-contains
returns-then-contains c = let h = c.if-contains.ensures.cases in search (rules, tests, carry_in)

pub returns-else-contains : goal.returns-else-contains
returns-else-contains c = let h = c.if-contains.ensures.cases in search (rules, tests, carry_out)
