-- Any two answers that the promise of a public function allows are equal (01, What the promises rule out).
use Rattle.basics.specs.Same.{OneAnswer, OneLent}
use Rattle.basics.specs.Laws.Same.{same}
use Rattle.layout.proofs.draw.Reads as draw
use Rattle.layout.proofs.lay_out.Reads as lay_out

pub one_draw : OneAnswer draw.Learnt
one_draw κs a y z e f = same

pub one_lay_out : OneAnswer lay_out.Learnt
one_lay_out κs a y z e f p q = same p.0 q.0

pub one_lay_out_ram : OneLent lay_out.Learnt (λ κs e. e.1.1.0.now)
one_lay_out_ram κs a y z e f p q = same p.1 q.1
