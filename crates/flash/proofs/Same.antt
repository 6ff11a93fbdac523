-- Any two answers that the promise of a public function allows are equal (01, What the promises rule out).
use Rattle.basics.specs.Same.{OneAnswer, OneLent}
use Rattle.basics.specs.Laws.Same.{same}
use Rattle.flash.proofs.read.Reads as read
use Rattle.flash.proofs.write.Reads as write
use Rattle.flash.proofs.erase.Reads as erase
use Rattle.flash.proofs.act.Reads as act
use Rattle.flash.proofs.fresh.Reads as fresh
use Rattle.flash.proofs.hear.Reads as hear
use Rattle.flash.proofs.remember.Reads as remember
use Rattle.flash.proofs.asked.Reads as asked

pub one_read : OneLent read.Learnt (λ κs e. e.1.1.0.now)
one_read κs a y z e f = same

pub one_write : OneLent write.Learnt (λ κs e. e.1.0.now)
one_write κs a y z e f = same

pub one_erase : OneLent erase.Learnt (λ κs e. e.1.0.now)
one_erase κs a y z e f = same

pub one_act_flash : OneLent act.Learnt (λ κs e. e.1.0.now)
one_act_flash κs a y z e f p q = same p.0 q.0

pub one_act_ram : OneLent act.Learnt (λ κs e. e.1.1.0.now)
one_act_ram κs a y z e f p q = same p.1 q.1

pub one_fresh : OneAnswer fresh.Learnt
one_fresh κs a y z e f = same

pub one_hear : OneAnswer hear.Learnt
one_hear κs a y z e f = same

pub one_remember : OneAnswer remember.Learnt
one_remember κs a y z e f = same

pub one_asked : OneAnswer asked.Learnt
one_asked κs a y z e f = same
