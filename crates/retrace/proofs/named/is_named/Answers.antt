-- `retrace::named::is_named` meets its contract. The loop's invariant: it is known whether the first i words are named.
use borrow.Author.Rules.{rules}
use Rattle.retrace.proofs.Fills.{words_none, words_more, words_all}
use Rattle.retrace.proofs.named.is_named.Goals as goal

pub loop-i-init : goal.loop-i-init
loop-i-init c = search (rules, words_none)

pub loop-i-preserved : goal.loop-i-preserved
loop-i-preserved c = search (rules, words_more)

pub returns : goal.returns
returns c = search (rules, words_all)
