-- Any two answers that the promise of the public function allows are equal (01, What the promises rule out).
use Rattle.basics.specs.Same.{OneAnswer, OneLent}
use Rattle.basics.specs.Laws.Same.{same}
use Rattle.accesses.proofs.run.Reads as run

pub one_run : OneAnswer run.Learnt
one_run κs a y z e f p q = same p.0 q.0

pub one_run_ram : OneLent run.Learnt (λ κs e. e.1.1.1.0.now)
one_run_ram κs a y z e f p q = same p.1 q.1

pub one_run_flash : OneLent run.Learnt (λ κs e. e.1.1.1.1.0.now)
one_run_flash κs a y z e f p q = same p.2 q.2

pub one_run_out : OneLent run.Learnt (λ κs e. e.1.1.1.1.1.0.now)
one_run_out κs a y z e f p q = same p.3 q.3
