-- `rebuild::Image::retraced` meets its contract, by what its callees ensure.
use borrow.Author.Rules.{rules}
use Rattle.rebuild.specs.Laws.Retraced.{retraced_is}
use Rattle.rebuild.proofs.Image.retraced.Goals as goal

pub returns : goal.returns
returns c = search (rules, retraced_is)
