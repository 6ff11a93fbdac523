-- `registers::words_of` meets its contract: word by word.
use Rattle.basics.specs.Tables.{made}
use Rattle.registers.proofs.Laws.{word_of_test}
use Rattle.registers.proofs.words_of.Goals as goal

pub returns : goal.returns
unfolding made
returns c = rw (c.from.ensures, word_of_test _ _ c.from-2.ensures)
