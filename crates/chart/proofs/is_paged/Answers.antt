-- `chart::is_paged` meets its contract: its two tests are those of `is_paged`.
use Rattle.std.proofs.Common.{rules}
use Rattle.basics.specs.Laws.Tests.{tests}
use Rattle.chart.specs.Chart.{is_paged}
use Rattle.chart.proofs.is_paged.Goals as goal

pub returns-then-first_k-i : goal.returns-then-first_k-i
unfolding is_paged
returns-then-first_k-i c = search (rules, tests)

pub returns-else-first_k-i : goal.returns-else-first_k-i
unfolding is_paged
returns-else-first_k-i c = search (rules, tests)
