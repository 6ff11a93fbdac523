-- `chart::shown_at` meets its contract: each return has decided the tests of `shown_at`.
use Rattle.std.proofs.Common.{rules}
use Rattle.basics.specs.Laws.Tests.{tests}
use Rattle.chart.specs.Chart.{shown_at}
use Rattle.chart.proofs.shown_at.Goals as goal

pub returns-then-is_silent : goal.returns-then-is_silent
unfolding shown_at
returns-then-is_silent c = search (rules, tests)

pub returns-then-in_window : goal.returns-then-in_window
unfolding shown_at
returns-then-in_window c = search (rules, tests)

pub returns-then-is_paged : goal.returns-then-is_paged
unfolding shown_at
returns-then-is_paged c = search (rules, tests)

pub returns : goal.returns
unfolding shown_at
returns c = search (rules, tests)
