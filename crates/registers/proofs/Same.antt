-- Any two answers that the promise of a public function allows are equal (01, What the promises rule out).
use Rattle.basics.specs.Same.{OneAnswer, OneLent}
use Rattle.basics.specs.Laws.Same.{same}
use Rattle.registers.proofs.words_of.Reads as words_of
use Rattle.registers.proofs.jlp_from.Reads as jlp-from
use Rattle.registers.proofs.is_on.Reads as is_on
use Rattle.registers.proofs.saves_of.Reads as saves-of
use Rattle.registers.proofs.latches.Reads as latches
use Rattle.registers.proofs.operates.Reads as operates
use Rattle.registers.proofs.tidy.Reads as tidy
use Rattle.registers.proofs.write.Reads as write

pub one_words_of : OneAnswer words_of.Learnt
one_words_of κs a y z e f = same

pub one_jlp_from : OneAnswer jlp-from.Learnt
one_jlp_from κs a y z e f = same

pub one_is_on : OneAnswer is_on.Learnt
one_is_on κs a y z e f = same

pub one_saves_of : OneAnswer saves-of.Learnt
one_saves_of κs a y z e f = same

pub one_latches : OneAnswer latches.Learnt
one_latches κs a y z e f = same

pub one_tidy : OneLent tidy.Learnt (λ κs e. e.0.now)
one_tidy κs a y z e f p q = same p q

pub one_write : OneLent write.Learnt (λ κs e. e.0.now)
one_write κs a y z e f p q = same p q

pub one_operates : OneAnswer operates.Learnt
one_operates κs a y z e f p q = same p.0 q.0

pub one_operates_words : OneLent operates.Learnt (λ κs e. e.0.now)
one_operates_words κs a y z e f p q = same p.1 q.1
