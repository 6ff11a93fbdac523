-- `names::is_name` meets its contract: it is short enough, and the library's search finds no 0.
use borrow.Author.Rules.{rules}
use Rattle.files.proofs.Named.{too_long, not_too_long}
use Rattle.files.proofs.names.is_name.Goals as goal

pub returns-then-name-lt-PATH_MAX : goal.returns-then-name-lt-PATH_MAX
returns-then-name-lt-PATH_MAX c = not_too_long _ _ c.if-name-lt-PATH_MAX.true c.contains.ensures.cases

pub returns-else-name-lt-PATH_MAX : goal.returns-else-name-lt-PATH_MAX
returns-else-name-lt-PATH_MAX c = search (rules, too_long)
