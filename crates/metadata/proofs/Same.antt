-- Any two answers that the promise of a public function allows are equal (01, What the promises rule out).
use Rattle.basics.specs.Same.{OneAnswer}
use Rattle.basics.specs.Laws.Same.{same}
use Rattle.metadata.proofs.record_at.Reads as record-at
use Rattle.metadata.proofs.is_cut.Reads as is_cut
use Rattle.metadata.proofs.seek.Reads as seek
use Rattle.metadata.proofs.is_single.Reads as is-single
use Rattle.metadata.proofs.is_twice.Reads as is-twice
use Rattle.metadata.proofs.date_of.Reads as date-of

pub one_record_at : OneAnswer record-at.Learnt
one_record_at κs a y z e f = same

pub one_is_cut : OneAnswer is_cut.Learnt
one_is_cut κs a y z e f = same

pub one_seek : OneAnswer seek.Learnt
one_seek κs a y z e f = same

pub one_is_single : OneAnswer is-single.Learnt
one_is_single κs a y z e f = same

pub one_is_twice : OneAnswer is-twice.Learnt
one_is_twice κs a y z e f = same

pub one_date_of : OneAnswer date-of.Learnt
one_date_of κs a y z e f = same
