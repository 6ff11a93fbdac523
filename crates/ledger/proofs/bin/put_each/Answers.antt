-- `ledger::bin::put_each` meets its contract. The loop's invariant: the first i words are written.
use borrow.Author.Rules.{rules}
use Rattle.ledger.proofs.Bins.{words_none, words_more, words_all}
use Rattle.ledger.proofs.bin.put_each.Goals as goal

pub loop-i-init : goal.loop-i-init
loop-i-init c = search (rules, words_none)

pub loop-i-preserved : goal.loop-i-preserved
loop-i-preserved c = search (rules, words_more)

pub returns : goal.returns
returns c = search (rules, words_all)
