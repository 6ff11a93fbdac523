-- Any two answers that the promise of a public function allows are equal (01, What the promises rule out).
use Rattle.basics.specs.Same.{OneAnswer, OneLent}
use Rattle.basics.specs.Laws.Same.{same}
use Rattle.label.proofs.is_wrong.Reads as is-wrong
use Rattle.label.proofs.write.Reads as write

pub one_is_wrong : OneAnswer is-wrong.Learnt
one_is_wrong κs a y z e f = same

pub one_write : OneAnswer write.Learnt
one_write κs a y z e f p q = same p.0 q.0

pub one_write_lent : OneLent write.Learnt (λ κs e. e.0.now)
one_write_lent κs a y z e f p q = same p.1 q.1
