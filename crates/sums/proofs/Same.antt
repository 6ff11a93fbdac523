-- Any two answers that the promise of a public function allows are equal (01, What the promises rule out).
use Rattle.basics.specs.Same.{OneAnswer}
use Rattle.basics.specs.Laws.Same.{same}
use Rattle.sums.proofs.bits.Reads as bits
use Rattle.sums.proofs.tables.Reads as tables
use Rattle.sums.proofs.sum_by.Reads as sum_by
use Rattle.sums.proofs.dowcrc_by.Reads as dowcrc-by
use Rattle.sums.proofs.dowcrc.Reads as dowcrc
use Rattle.sums.proofs.dowcrc_short.Reads as dowcrc-short
use Rattle.sums.proofs.crc324.Reads as crc324
use Rattle.sums.proofs.crc32.Reads as crc32

pub one_bits : OneAnswer bits.Learnt
one_bits κs a y z e f = same

pub one_tables : OneAnswer tables.Learnt
one_tables κs a y z e f = same

pub one_sum_by : OneAnswer sum_by.Learnt
one_sum_by κs a y z e f = same

pub one_dowcrc_by : OneAnswer dowcrc-by.Learnt
one_dowcrc_by κs a y z e f = same

pub one_dowcrc : OneAnswer dowcrc.Learnt
one_dowcrc κs a y z e f = same

pub one_crc324 : OneAnswer crc324.Learnt
one_crc324 κs a y z e f = same

pub one_crc32 : OneAnswer crc32.Learnt
one_crc32 κs a y z e f = same

pub one_dowcrc_short : OneAnswer dowcrc-short.Learnt
one_dowcrc_short κs a y z e f = same
