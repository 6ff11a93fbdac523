-- Any two answers that the promise of a public function allows are equal (01, What the promises rule out).
use Rattle.basics.specs.Same.{OneAnswer, OneSeen}
use Rattle.basics.specs.Laws.Same.{same}
use Rattle.print.proofs.Text.as_bytes.Reads as as-bytes
use Rattle.print.proofs.text_of.Reads as text_of

pub one_text_of : OneAnswer text_of.Learnt
one_text_of κs a y z e f = same

pub one_as_bytes : OneSeen as-bytes.Learnt (λ κs y. y.now)
one_as_bytes κs a y z e f = same
