-- Any two answers that the promise of a public function allows are equal (01, What the promises rule out).
use Rattle.basics.specs.Same.{OneAnswer, OneLent}
use Rattle.basics.specs.Laws.Same.{same}
use Rattle.hunk.proofs.check.Reads as check
use Rattle.hunk.proofs.store.Reads as store
use Rattle.hunk.proofs.size.Reads as size
use Rattle.hunk.proofs.write.Reads as write

pub one_check : OneAnswer check.Learnt
one_check κs a y z e f = same

pub one_store_lent : OneLent store.Learnt (λ κs e. e.1.0.now)
one_store_lent κs a y z e f = same

pub one_size : OneAnswer size.Learnt
one_size κs a y z e f p q = same p.0 q.0

pub one_write_lent : OneLent write.Learnt (λ κs e. e.0.now)
one_write_lent κs a y z e f = same
