-- Any two answers that the promise of a public function allows are equal (01, What the promises rule out).
use Rattle.basics.specs.Same.{OneAnswer}
use Rattle.basics.specs.Laws.Same.{same}
use Rattle.places.proofs.lent_words.Reads as lent-words

pub one_lent_words : OneAnswer lent-words.Learnt
one_lent_words κs a y z e f p q = same p.0 q.0
