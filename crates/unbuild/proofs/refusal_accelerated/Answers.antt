-- `unbuild::refusal_accelerated` meets its contract: the load refuses, or 31.
use borrow.Author.Rules.{rules}
use Rattle.unbuild.proofs.Loads.{accelerated_load, accelerated_loads}
use Rattle.unbuild.proofs.refusal_accelerated.Goals as goal

pub returns-in-Err : goal.returns-in-Err
returns-in-Err c = search (rules, accelerated_load)

pub returns-in-Ok : goal.returns-in-Ok
returns-in-Ok c = search (rules, accelerated_loads)
