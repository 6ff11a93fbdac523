-- `jlp::sum::checksum` meets its contract: sixteen bits of the sum with the word merged in.
use borrow.Author.Rules.{rules}
use Rattle.jlp.proofs.Laws.{word_fits, word_is}
use Rattle.jlp.proofs.sum.checksum.Goals as goal

pub overflow_cast-result : goal.overflow_cast-result
overflow_cast-result c = search (rules, word_fits)

pub returns : goal.returns
returns c = search (rules, word_is)
