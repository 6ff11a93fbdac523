-- `retrace::row::is_quiet` meets its contract: the paragraph's first address is silent.
use borrow.Author.Rules.{rules}
use Rattle.plan.specs.Valid.{quiet}
use Rattle.retrace.proofs.row.is_quiet.Goals as goal

pub returns : goal.returns
unfolding quiet
returns c = search rules
