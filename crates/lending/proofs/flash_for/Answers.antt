-- `lending::flash_for` meets its contract: one law for each return.
use borrow.Author.Rules.{rules}
use Rattle.lending.proofs.Laws.{asks_none, asks_some}
use Rattle.lending.proofs.flash_for.Goals as goal

pub returns-then-image-lt-UID_AT : goal.returns-then-image-lt-UID_AT
returns-then-image-lt-UID_AT c = search (rules, asks_none)

pub returns : goal.returns
returns c = search (rules, asks_some)
