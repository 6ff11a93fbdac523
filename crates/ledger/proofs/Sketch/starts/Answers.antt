-- `ledger::Sketch::starts` meets its contract: one law for each way out.
use borrow.Author.Rules.{rules}
use Rattle.ledger.proofs.Loops.{starts_first, starts_later, starts_none}
use Rattle.ledger.proofs.Sketch.starts.Goals as goal

pub returns-then-p-eq0 : goal.returns-then-p-eq0
returns-then-p-eq0 c = search (rules, starts_first)

pub returns-else-p-eq0 : goal.returns-else-p-eq0
returns-else-p-eq0 c = search (rules, starts_later)

pub returns-else-self-p-ne0 : goal.returns-else-self-p-ne0
returns-else-self-p-ne0 c = search (rules, starts_none)
