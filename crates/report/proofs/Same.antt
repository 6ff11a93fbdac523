-- Any two answers that the promise of a public function allows are equal (01, What the promises rule out).
use Rattle.basics.specs.Same.{OneAnswer, OneLent}
use Rattle.basics.specs.Laws.Same.{same}
use Rattle.report.proofs.answer.Reads as answer

pub one_answer : OneAnswer answer.Learnt
one_answer κs a y z e f p q = same p.0 q.0

pub one_answer_lent : OneLent answer.Learnt (λ κs e. e.1.0.now)
one_answer_lent κs a y z e f p q = same p.1 q.1
