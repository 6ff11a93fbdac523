-- `unbuild::unbuild_loaded` meets its contract, by what its callees ensure.
use borrow.Author.Rules.{rules}
use Rattle.unbuild.proofs.Loads.{answers_plain}
use Rattle.unbuild.proofs.unbuild_loaded.Goals as goal

pub returns : goal.returns
returns c = search (rules, answers_plain)
