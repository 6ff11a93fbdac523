-- `grammar::word_count` meets its contract. The invariant: n words are passed, and those from `at` on are left.
use borrow.Author.Rules.{rules}
use Rattle.grammar.proofs.Words.{count_none, count_more, count_end}
use Rattle.grammar.proofs.word_count.Goals as goal

pub returns-then-w : goal.returns-then-w
returns-then-w c = search (rules, count_none)

pub loop-at-preserved : goal.loop-at-preserved
loop-at-preserved c = search (rules, count_more)

pub returns : goal.returns
returns c = search (rules, count_end)
