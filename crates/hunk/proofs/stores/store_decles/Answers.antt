-- `hunk::stores::store_decles` meets its contract: the decles, and the word behind them.
use borrow.Author.Rules.{rules}
use Rattle.hunk.proofs.Stored.{decles_last}
use Rattle.hunk.proofs.stores.store_decles.Goals as goal

pub returns : goal.returns
returns c = search (rules, decles_last)
