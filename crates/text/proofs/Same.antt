-- Any two answers that the promise of a public function allows are equal (01, What the promises rule out).
use Rattle.basics.specs.Same.{OneAnswer}
use Rattle.basics.specs.Laws.Same.{same}
use Rattle.text.proofs.is_cr_lf.Reads as is-cr-lf
use Rattle.text.proofs.is_allowed.Reads as is-allowed
use Rattle.text.proofs.first_foreign.Reads as first-foreign
use Rattle.text.proofs.line_of.Reads as Line-of
use Rattle.text.proofs.is_end.Reads as is-end
use Rattle.text.proofs.line_end.Reads as line-end
use Rattle.text.proofs.past_end.Reads as past_end
use Rattle.text.proofs.next_line.Reads as next_line_lem
use Rattle.text.proofs.same_text.Reads as same_text
use Rattle.text.proofs.digit_of.Reads as digit-of
use Rattle.text.proofs.upper_digit.Reads as upper-digit

pub one_is_cr_lf : OneAnswer is-cr-lf.Learnt
one_is_cr_lf κs a y z e f = same

pub one_is_allowed : OneAnswer is-allowed.Learnt
one_is_allowed κs a y z e f = same

pub one_first_foreign : OneAnswer first-foreign.Learnt
one_first_foreign κs a y z e f = same

pub one_line_of : OneAnswer Line-of.Learnt
one_line_of κs a y z e f = same

pub one_is_end : OneAnswer is-end.Learnt
one_is_end κs a y z e f = same

pub one_line_end : OneAnswer line-end.Learnt
one_line_end κs a y z e f = same

pub one_past_end : OneAnswer past_end.Learnt
one_past_end κs a y z e f = same

pub one_next_line : OneAnswer next_line_lem.Learnt
one_next_line κs a y z e f = same

pub one_same_text : OneAnswer same_text.Learnt
one_same_text κs a y z e f = same

pub one_digit_of : OneAnswer digit-of.Learnt
one_digit_of κs a y z e f p q = same p.0 q.0

pub one_upper_digit : OneAnswer upper-digit.Learnt
one_upper_digit κs a y z e f = same
