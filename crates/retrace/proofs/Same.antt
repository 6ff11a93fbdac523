-- Any two answers that the promise of a public function allows are equal (01, What the promises rule out).
use Rattle.basics.specs.Same.{OneAnswer}
use Rattle.basics.specs.Laws.Same.{same}
use Rattle.retrace.proofs.plan_behind.Reads as plan-behind
use Rattle.retrace.proofs.named.marks_of.Reads as marks-of

pub one_plan_behind : OneAnswer plan-behind.Learnt
one_plan_behind κs a y z e f = same

pub one_marks_of : OneAnswer marks-of.Learnt
one_marks_of κs a y z e f = same
