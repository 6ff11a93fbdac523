-- Any two answers that the promise of a public function allows are equal (01, What the promises rule out).
use Rattle.basics.specs.Same.{OneAnswer}
use Rattle.basics.specs.Laws.Same.{same}
use Rattle.jlp.proofs.arith.multiply.Reads as multiply
use Rattle.jlp.proofs.arith.divide.Reads as divide
use Rattle.jlp.proofs.sum.checksum.Reads as checksum
use Rattle.jlp.proofs.in_window.Reads as in_window
use Rattle.jlp.proofs.in_ram.Reads as in_ram_lem
use Rattle.jlp.proofs.is_operand.Reads as is-operand
use Rattle.jlp.proofs.location.Reads as location
use Rattle.jlp.proofs.fresh.Reads as fresh
use Rattle.jlp.proofs.reset.Reads as reset
use Rattle.jlp.proofs.turns_on.Reads as turns-on
use Rattle.jlp.proofs.turns_off.Reads as turns-off
use Rattle.jlp.proofs.takes.Reads as takes
use Rattle.jlp.proofs.latches.Reads as latches
use Rattle.jlp.proofs.function_of.Reads as Function-of
use Rattle.jlp.proofs.crc_after.Reads as crc-after
use Rattle.jlp.proofs.write.Reads as write
use Rattle.jlp.proofs.read.Reads as read

pub one_multiply : OneAnswer multiply.Learnt
one_multiply κs a y z e f = same

pub one_divide : OneAnswer divide.Learnt
one_divide κs a y z e f = same

pub one_checksum : OneAnswer checksum.Learnt
one_checksum κs a y z e f = same

pub one_in_window : OneAnswer in_window.Learnt
one_in_window κs a y z e f = same

pub one_in_ram : OneAnswer in_ram_lem.Learnt
one_in_ram κs a y z e f = same

pub one_is_operand : OneAnswer is-operand.Learnt
one_is_operand κs a y z e f = same

pub one_location : OneAnswer location.Learnt
one_location κs a y z e f = same

pub one_fresh : OneAnswer fresh.Learnt
one_fresh κs a y z e f = same

pub one_reset : OneAnswer reset.Learnt
one_reset κs a y z e f = same

pub one_turns_on : OneAnswer turns-on.Learnt
one_turns_on κs a y z e f = same

pub one_turns_off : OneAnswer turns-off.Learnt
one_turns_off κs a y z e f = same

pub one_takes : OneAnswer takes.Learnt
one_takes κs a y z e f = same

pub one_latches : OneAnswer latches.Learnt
one_latches κs a y z e f = same

pub one_function_of : OneAnswer Function-of.Learnt
one_function_of κs a y z e f = same

pub one_crc_after : OneAnswer crc-after.Learnt
one_crc_after κs a y z e f = same

pub one_write : OneAnswer write.Learnt
one_write κs a y z e f = same

pub one_read : OneAnswer read.Learnt
one_read κs a y z e f = same
