-- Any two answers that the promise of a public function allows are equal (01, What the promises rule out).
use Rattle.basics.specs.Same.{OneAnswer, OneSeen, OneLent}
use Rattle.basics.specs.Laws.Same.{same}
use Rattle.header.proofs.check.Reads as check
use Rattle.header.proofs.size.Reads as size
use Rattle.header.proofs.write.Reads as write
use Rattle.header.proofs.compat_of.Reads as compat-of
use Rattle.header.proofs.no_compat.Reads as no-compat
use Rattle.header.proofs.number_of.Reads as number_of_lem
use Rattle.header.proofs.flags_of.Reads as flags-of
use Rattle.header.proofs.jlp_field.Reads as jlp_field_lem
use Rattle.header.proofs.flash_size.Reads as flash-size

pub one_check : OneAnswer check.Learnt
one_check κs a y z e f = same

pub one_size : OneAnswer size.Learnt
one_size κs a y z e f p q = same p.0 q.0

pub one_write : OneLent write.Learnt (λ κs e. e.0.now)
one_write κs a y z e f = same

pub one_compat_of : OneAnswer compat-of.Learnt
one_compat_of κs a y z e f = same

pub one_no_compat : OneAnswer no-compat.Learnt
one_no_compat κs a y z e f = same

pub one_number_of : OneAnswer number_of_lem.Learnt
one_number_of κs a y z e f = same

pub one_jlp_field : OneAnswer jlp_field_lem.Learnt
one_jlp_field κs a y z e f = same

pub one_flash_size : OneAnswer flash-size.Learnt
one_flash_size κs a y z e f = same

pub one_flags_of : OneSeen flags-of.Learnt (λ κs y. y.now)
one_flags_of κs a y z e f = same
