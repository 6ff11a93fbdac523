-- `basics::put_words` meets its contract. The loop's invariant: the first i words are put, two bytes each.
use native.Mathlib.Omega.{arith}
use lib.ListN.{length-set}
use borrow.Author.Rules.{rules}
use Rattle.basics.specs.Laws.Puts.{word_short, word_none, word_more, word_all}
use Rattle.basics.proofs.put_words.Goals as goal

pub loop-i-init : goal.loop-i-init
loop-i-init c = search (rules, word_none)

pub bounds-out-i-in-loop-i : goal.bounds-out-i-in-loop-i
bounds-out-i-in-loop-i c = simp length-set (omega arith)

pub loop-i-preserved : goal.loop-i-preserved
loop-i-preserved c = search (rules, word_more)

pub returns-then-out-words : goal.returns-then-out-words
returns-then-out-words c = search (rules, word_short)

pub returns : goal.returns
returns c = search (rules, word_all)
