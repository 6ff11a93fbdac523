-- `retrace::plan_behind` meets its contract, by what its callees ensure.
use borrow.Author.Rules.{rules}
use Rattle.retrace.proofs.Fills.{sketch_is}
use Rattle.retrace.proofs.plan_behind.Goals as goal

pub returns : goal.returns
returns c = search (rules, sketch_is)
