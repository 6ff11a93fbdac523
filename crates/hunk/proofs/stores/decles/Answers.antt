-- `hunk::stores::decles` meets its contract: whole packets, and a short one behind them.
use borrow.Author.Rules.{rules}
use Rattle.hunk.proofs.Stored.{packed_all}
use Rattle.hunk.proofs.stores.decles.Goals as goal

pub returns : goal.returns
returns c = search (rules, packed_all)
