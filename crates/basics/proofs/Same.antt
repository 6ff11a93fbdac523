-- Any two answers that the promise of a public function allows are equal (01, What the promises rule out).
use Rattle.basics.specs.Same.{OneAnswer, OneLent}
use Rattle.basics.specs.Laws.Same.{same}
use Rattle.basics.proofs.refuse.Reads as refuse
use Rattle.basics.proofs.no_refusal.Reads as no-refusal
use Rattle.basics.proofs.wide.Reads as wide
use Rattle.basics.proofs.wide16.Reads as wide16
use Rattle.basics.proofs.low.Reads as low
use Rattle.basics.proofs.high.Reads as high
use Rattle.basics.proofs.byte_at.Reads as byte_at
use Rattle.basics.proofs.word_at.Reads as word_at
use Rattle.basics.proofs.least.Reads as least
use Rattle.basics.proofs.both.Reads as both
use Rattle.basics.proofs.either.Reads as either
use Rattle.basics.proofs.put_bytes.Reads as put-bytes
use Rattle.basics.proofs.put_words.Reads as put-words

pub one_refuse : OneAnswer refuse.Learnt
one_refuse κs a y z e f = same

pub one_no_refusal : OneAnswer no-refusal.Learnt
one_no_refusal κs a y z e f = same

pub one_wide : OneAnswer wide.Learnt
one_wide κs a y z e f p q = same p.0 q.0

pub one_wide16 : OneAnswer wide16.Learnt
one_wide16 κs a y z e f p q = same p.0 q.0

pub one_low : OneAnswer low.Learnt
one_low κs a y z e f = same

pub one_high : OneAnswer high.Learnt
one_high κs a y z e f = same

pub one_byte_at : OneAnswer byte_at.Learnt
one_byte_at κs a y z e f = same

pub one_word_at : OneAnswer word_at.Learnt
one_word_at κs a y z e f = same

pub one_least : OneAnswer least.Learnt
one_least κs a y z e f = same

pub one_both : OneAnswer both.Learnt
one_both κs a y z e f = same

pub one_either : OneAnswer either.Learnt
one_either κs a y z e f = same

pub one_put_bytes : OneLent put-bytes.Learnt (λ κs e. e.0.now)
one_put_bytes κs a y z e f = same

pub one_put_words : OneLent put-words.Learnt (λ κs e. e.0.now)
one_put_words κs a y z e f = same
