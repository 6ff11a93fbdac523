-- `jlp::register_at` meets its contract: each return has decided the tests of `register_word`.
use Rattle.basics.specs.Laws.Tests.{tests}
use Rattle.jlp.specs.Accelerators.{register_word}
use Rattle.jlp.proofs.register_at.Goals as goal

pub returns-then-at-eq-FIRST_AT : goal.returns-then-at-eq-FIRST_AT
unfolding register_word
returns-then-at-eq-FIRST_AT c = search tests

pub returns-then-at-eq-SECOND_AT : goal.returns-then-at-eq-SECOND_AT
unfolding register_word
returns-then-at-eq-SECOND_AT c = search tests

pub returns-then-at-eq-CRC_AT : goal.returns-then-at-eq-CRC_AT
unfolding register_word
returns-then-at-eq-CRC_AT c = search tests

pub returns : goal.returns
unfolding register_word
returns c = search (tests, c.hear.ensures)
