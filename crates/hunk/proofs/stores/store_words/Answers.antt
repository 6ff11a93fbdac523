-- `hunk::stores::store_words` meets its contract. The loop's invariant: i of the n words are laid.
use Rattle.basics.specs.Laws.Lists.{laid_none}
use borrow.Author.Rules.{rules}
use Rattle.hunk.proofs.Stored.{words_more}
use Rattle.hunk.proofs.stores.store_words.Goals as goal

pub loop-i-init : goal.loop-i-init
loop-i-init c = search (rules, laid_none)

pub loop-i-preserved : goal.loop-i-preserved
loop-i-preserved c = search (rules, words_more)
