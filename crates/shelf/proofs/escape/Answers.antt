-- `shelf::escape` meets its contract: one law for each return.
use borrow.Author.Rules.{rules}
use Rattle.shelf.proofs.Laws.{escape_short, done_length, done_is}
use Rattle.shelf.proofs.escape.Goals as goal

pub returns-then-out-text : goal.returns-then-out-text
returns-then-out-text c = search (rules, escape_short)

pub returns : goal.returns
returns c = (search (rules, done_length), search (rules, done_is))
