-- Any two answers that the promise of a public function allows are equal (01, What the promises rule out).
use Rattle.basics.specs.Same.{OneAnswer}
use Rattle.basics.specs.Laws.Same.{same}
use Rattle.rules.proofs.judge.Reads as judge
use Rattle.rules.proofs.collides_with.Reads as collides-with

pub one_judge : OneAnswer judge.Learnt
one_judge κs a y z e f = same

pub one_collides_with : OneAnswer collides-with.Learnt
one_collides_with κs a y z e f = same
