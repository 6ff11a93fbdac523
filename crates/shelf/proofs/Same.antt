-- Any two answers that the promise of a public function allows are equal, and what they leave behind a `&mut` too.
use Rattle.basics.specs.Same.{OneAnswer, OneLent}
use Rattle.basics.specs.Laws.Same.{same}
use Rattle.shelf.proofs.escape.Reads as escape

pub one_escape : OneAnswer escape.Learnt
one_escape κs a y z e f p q = same p.0 q.0

pub one_escape_lent : OneLent escape.Learnt (λ κs e. e.0.now)
one_escape_lent κs a y z e f p q = same p.1 q.1
