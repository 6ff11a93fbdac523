-- Any two answers that the promise of a public function allows are equal (01, What the promises rule out).
use Rattle.basics.specs.Same.{OneAnswer, OneLent}
use Rattle.basics.specs.Laws.Same.{same}
use Rattle.recovery.proofs.salvage.Reads as salvage
use Rattle.recovery.proofs.answer.Reads as answer
use Rattle.recovery.proofs.drops.Reads as drops

pub one_salvage : OneAnswer salvage.Learnt
one_salvage κs a y z e f p q = same p.0 q.0

pub one_salvage_lent : OneLent salvage.Learnt (λ κs e. e.1.0.now)
one_salvage_lent κs a y z e f p q = same p.1 q.1

pub one_answer : OneAnswer answer.Learnt
one_answer κs a y z e f p q = same p.0 q.0

pub one_answer_lent : OneLent answer.Learnt (λ κs e. e.1.0.now)
one_answer_lent κs a y z e f p q = same p.1 q.1

pub one_drops : OneAnswer drops.Learnt
one_drops κs a y z e f p q = same p.0 q.0

pub one_drops_lent : OneLent drops.Learnt (λ κs e. e.1.0.now)
one_drops_lent κs a y z e f p q = same p.1 q.1
