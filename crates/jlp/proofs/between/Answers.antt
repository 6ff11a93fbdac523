-- `jlp::between` meets its contract: its two tests are those of `between`.
use Rattle.std.proofs.Common.{rules}
use Rattle.basics.specs.Laws.Tests.{tests}
use Rattle.jlp.specs.Window.{between}
use Rattle.jlp.proofs.between.Goals as goal

pub returns : goal.returns
unfolding between
returns c = search (rules, tests)
