-- Any two answers that the promise of a public function allows are equal, and so is what it leaves in the buffers (01, What the promises rule out).
use Rattle.basics.specs.Same.{OneAnswer, OneLent}
use Rattle.basics.specs.Laws.Same.{same}
use Rattle.unbuild.proofs.unbuild.Reads as unbuild

pub one_unbuild : OneAnswer unbuild.Learnt
one_unbuild κs a y z e f p q = same p.0 q.0

pub one_unbuild_bin : OneLent unbuild.Learnt (λ κs e. e.1.0.now)
one_unbuild_bin κs a y z e f p q = same p.1 q.1

pub one_unbuild_cfg : OneLent unbuild.Learnt (λ κs e. e.1.1.0.now)
one_unbuild_cfg κs a y z e f p q = same p.2 q.2
