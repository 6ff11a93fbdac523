-- Any two answers that the promise of a public function allows are equal (01, What the promises rule out).
use Rattle.basics.specs.Same.{OneAnswer}
use Rattle.basics.specs.Laws.Same.{same}
use Rattle.grammar.proofs.read_line.Reads as read-line

pub one_read_line : OneAnswer read-line.Learnt
one_read_line κs a y z e f = same
