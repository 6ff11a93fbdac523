-- `chart::leaf_at` meets its contract: each return has decided the tests of `leaf_at`.
use Rattle.std.proofs.Common.{rules}
use Rattle.basics.specs.Laws.Tests.{tests}
use Rattle.chart.specs.Chart.{leaf_at}
use Rattle.chart.proofs.leaf_at.Goals as goal

pub returns-then-not-acts : goal.returns-then-not-acts
unfolding leaf_at
returns-then-not-acts c = search (rules, tests)

pub returns-then-entry-ne1 : goal.returns-then-entry-ne1
unfolding leaf_at
returns-then-entry-ne1 c = search (rules, tests)

pub returns : goal.returns
unfolding leaf_at
returns c = search (rules, tests)
