-- Any two answers that the promise of a public function allows are equal (01, What the promises rule out).
use Rattle.basics.specs.Same.{OneAnswer, OneLent, OneSeen}
use Rattle.basics.specs.Laws.Same.{same}
use Rattle.blocks.proofs.frame_at.Reads as frame-at
use Rattle.blocks.proofs.payload_of.Reads as payload-of
use Rattle.blocks.proofs.payload_sum.Reads as payload-sum
use Rattle.blocks.proofs.judge.Reads as judge
use Rattle.blocks.proofs.put_frame.Reads as put-frame

pub one_frame_at : OneAnswer frame-at.Learnt
one_frame_at κs a y z e f = same

pub one_payload_of : OneSeen payload-of.Learnt (λ κs y. y.now)
one_payload_of κs a y z e f = same

pub one_payload_sum : OneAnswer payload-sum.Learnt
one_payload_sum κs a y z e f p q = same p.0 q.0

pub one_judge : OneAnswer judge.Learnt
one_judge κs a y z e f = same

pub one_put_frame : OneLent put-frame.Learnt (λ κs e. e.0.now)
one_put_frame κs a y z e f = same
