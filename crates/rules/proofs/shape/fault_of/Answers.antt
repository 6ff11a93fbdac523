-- `rules::shape::fault_of` meets its contract: 25, then 26.
use borrow.Author.Rules.{rules}
use Rattle.rules.proofs.Tests.{fault_range, fault_shape, fault_none}
use Rattle.rules.proofs.shape.fault_of.Goals as goal

pub returns-then-out_of_range : goal.returns-then-out_of_range
returns-then-out_of_range c = search (rules, fault_range)

pub returns-then-not_allowed : goal.returns-then-not_allowed
returns-then-not_allowed c = search (rules, fault_shape)

pub returns : goal.returns
returns c = search (rules, fault_none)
