-- Any two answers that the promise of a public function allows are equal (01, What the promises rule out).
use Rattle.basics.specs.Same.{OneAnswer, OneLent}
use Rattle.basics.specs.Laws.Same.{same}
use Rattle.load.proofs.judge.Reads as judge
use Rattle.load.proofs.lay_hunks.Reads as lay-hunks
use Rattle.load.proofs.load.Reads as load
use Rattle.load.proofs.refusal_for.Reads as refusal-for

pub one_load : OneAnswer load.Learnt
one_load κs a y z e f p q = same p.0 q.0

pub one_load_lent : OneLent load.Learnt (λ κs e. e.1.0.now)
one_load_lent κs a y z e f p q = same p.1 q.1

pub one_refusal_for : OneAnswer refusal-for.Learnt
one_refusal_for κs a y z e f = same

pub one_lay_hunks : OneLent lay-hunks.Learnt (λ κs e. e.1.0.now)
one_lay_hunks κs a y z e f = same

pub one_judge : OneAnswer judge.Learnt
one_judge κs a y z e f p q = same p.0 q.0
