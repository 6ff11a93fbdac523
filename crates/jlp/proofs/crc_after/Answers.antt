-- `jlp::crc_after` meets its contract: each return has decided the tests of `crc_after`.
use Rattle.basics.specs.Laws.Tests.{tests}
use Rattle.jlp.specs.Accelerators.{crc_after}
use Rattle.jlp.proofs.crc_after.Goals as goal

pub returns-then-at-eq-DATA_AT : goal.returns-then-at-eq-DATA_AT
unfolding crc_after
returns-then-at-eq-DATA_AT c = search (tests, c.checksum.ensures)

pub returns-then-at-eq-CRC_AT : goal.returns-then-at-eq-CRC_AT
unfolding crc_after
returns-then-at-eq-CRC_AT c = search tests

pub returns : goal.returns
unfolding crc_after
returns c = search tests
