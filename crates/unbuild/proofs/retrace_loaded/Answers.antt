-- `unbuild::retrace_loaded` meets its contract, by what its callees ensure.
use borrow.Author.Rules.{rules}
use Rattle.unbuild.proofs.Loads.{ones_laid, retraced_loaded}
use Rattle.unbuild.proofs.retrace_loaded.Goals as goal

pub returns : goal.returns
returns c = (search (rules, retraced_loaded), search (rules, ones_laid))
