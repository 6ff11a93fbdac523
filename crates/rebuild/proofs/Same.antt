-- Any two answers that the promise of a public function allows are equal (01, What the promises rule out).
use Rattle.basics.specs.Same.{OneAnswer}
use Rattle.basics.specs.Laws.Same.{same}
use Rattle.rebuild.proofs.retrace_image.Reads as retrace-image

pub one_retrace_image : OneAnswer retrace-image.Learnt
one_retrace_image κs a y z e f = same
