-- `metadata::record_at` meets its contract: one law for each return.
use Rattle.metadata.proofs.Laws.{records}
use borrow.Author.Rules.{rules}
use Rattle.metadata.proofs.record_at.Goals as goal

pub returns-then-s-p : goal.returns-then-s-p
returns-then-s-p c = search (rules, records)

pub returns-then-s-p-lt-HEAD_SIZE : goal.returns-then-s-p-lt-HEAD_SIZE
returns-then-s-p-lt-HEAD_SIZE c = search (rules, records)

pub returns-then-s-from : goal.returns-then-s-from
returns-then-s-from c = search (rules, records)

pub returns : goal.returns
returns c = search (rules, records)
