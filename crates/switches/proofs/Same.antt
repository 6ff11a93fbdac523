-- Any two answers that the promise of a public function allows are equal (01, What the promises rule out).
use Rattle.basics.specs.Same.{OneAnswer, OneLent}
use Rattle.basics.specs.Laws.Same.{same}
use Rattle.switches.proofs.asked.Reads as asked
use Rattle.switches.proofs.acts.Reads as acts
use Rattle.switches.proofs.first_k.Reads as first-k
use Rattle.switches.proofs.flip_from.Reads as flip-from
use Rattle.switches.proofs.flip_size.Reads as flip-size
use Rattle.switches.proofs.flip.Reads as flip
use Rattle.switches.proofs.register_at.Reads as register-at
use Rattle.switches.proofs.banked.Reads as banked
use Rattle.switches.proofs.bankswitch.Reads as bankswitch

pub one_asked : OneAnswer asked.Learnt
one_asked κs a y z e f = same

pub one_acts : OneAnswer acts.Learnt
one_acts κs a y z e f = same

pub one_first_k : OneAnswer first-k.Learnt
one_first_k κs a y z e f p q = same p.0 q.0

pub one_flip_from : OneAnswer flip-from.Learnt
one_flip_from κs a y z e f p q = same p.0 q.0

pub one_flip_size : OneAnswer flip-size.Learnt
one_flip_size κs a y z e f = same

pub one_flip : OneAnswer flip.Learnt
one_flip κs a y z e f p q = same p.0 q.0

pub one_flip_mapping : OneLent flip.Learnt (λ κs e. e.0.now)
one_flip_mapping κs a y z e f p q = same p.1 q.1

pub one_flip_permissions : OneLent flip.Learnt (λ κs e. e.1.0.now)
one_flip_permissions κs a y z e f p q = same p.2 q.2

pub one_register_at : OneAnswer register-at.Learnt
one_register_at κs a y z e f = same

pub one_banked : OneAnswer banked.Learnt
one_banked κs a y z e f = same

pub one_bankswitch : OneAnswer bankswitch.Learnt
one_bankswitch κs a y z e f p q = same p.0 q.0

pub one_bankswitch_mapping : OneLent bankswitch.Learnt (λ κs e. e.0.now)
one_bankswitch_mapping κs a y z e f p q = same p.1 q.1
