-- `accesses::latched` meets its contract: a write that goes to no register leaves the accelerators.
use borrow.Author.Rules.{rules}
use Rattle.accesses.proofs.Steps.{passed_by}
use Rattle.accesses.proofs.latched.Goals as goal

pub returns : goal.returns
returns c = search (rules, passed_by)
