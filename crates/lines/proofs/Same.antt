-- Any two answers that the promise of a public function allows are equal (01, What the promises rule out).
use Rattle.basics.specs.Same.{OneAnswer}
use Rattle.basics.specs.Laws.Same.{same}
use Rattle.lines.proofs.first_of.Reads as first_of
use Rattle.lines.proofs.last_of.Reads as last_of
use Rattle.lines.proofs.holds.Reads as holds
use Rattle.lines.proofs.layer_of.Reads as layer-of
use Rattle.lines.proofs.kind_of.Reads as kind_of_lem

pub one_first_of : OneAnswer first_of.Learnt
one_first_of κs a y z e f = same

pub one_last_of : OneAnswer last_of.Learnt
one_last_of κs a y z e f = same

pub one_holds : OneAnswer holds.Learnt
one_holds κs a y z e f = same

pub one_layer_of : OneAnswer layer-of.Learnt
one_layer_of κs a y z e f p q = same p.0 q.0

pub one_kind_of : OneAnswer kind_of_lem.Learnt
one_kind_of κs a y z e f = same
