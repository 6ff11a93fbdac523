-- Any two answers that the promise of a public function allows are equal (01, What the promises rule out).
use Rattle.basics.specs.Same.{OneAnswer, OneLent}
use Rattle.basics.specs.Laws.Same.{same}
use Rattle.build.proofs.build.Reads as build

pub one_build : OneAnswer build.Learnt
one_build κs a y z e f p q = same p.0 q.0

pub one_build_out : OneLent build.Learnt (λ κs e. e.1.1.1.0.now)
one_build_out κs a y z e f p q = same p.1 q.1
