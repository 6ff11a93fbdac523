-- Any two answers that the promise of a public function allows are equal (01, What the promises rule out).
use Rattle.basics.specs.Same.{OneAnswer, OneLent}
use Rattle.basics.specs.Laws.Same.{same}
use Rattle.direct.proofs.hear.Reads as hear
use Rattle.direct.proofs.store.Reads as store
use Rattle.direct.proofs.read.Reads as read
use Rattle.direct.proofs.write.Reads as write

pub one_hear : OneAnswer hear.Learnt
one_hear κs a y z e f = same

pub one_store : OneAnswer store.Learnt
one_store κs a y z e f p q = same p.0 q.0

pub one_store_ram : OneLent store.Learnt (λ κs e. e.1.1.1.0.now)
one_store_ram κs a y z e f p q = same p.1 q.1

pub one_read : OneAnswer read.Learnt
one_read κs a y z e f = same

pub one_write : OneAnswer write.Learnt
one_write κs a y z e f p q = same p.0 q.0

pub one_write_readable : OneLent write.Learnt (λ κs e. e.1.1.1.0.now)
one_write_readable κs a y z e f p q = same p.1 q.1

pub one_write_mapping : OneLent write.Learnt (λ κs e. e.0.now)
one_write_mapping κs a y z e f p q = same p.2 q.2

pub one_write_permissions : OneLent write.Learnt (λ κs e. e.1.0.now)
one_write_permissions κs a y z e f p q = same p.3 q.3

pub one_write_accelerators : OneLent write.Learnt (λ κs e. e.1.1.1.1.0.now)
one_write_accelerators κs a y z e f p q = same p.4 q.4

pub one_write_ram : OneLent write.Learnt (λ κs e. e.1.1.1.1.1.0.now)
one_write_ram κs a y z e f p q = same p.5 q.5

pub one_write_flash : OneLent write.Learnt (λ κs e. e.1.1.1.1.1.1.0.now)
one_write_flash κs a y z e f p q = same p.6 q.6
