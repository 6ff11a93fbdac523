-- Any two answers that the promise of a public function allows are equal (01, What the promises rule out).
use Rattle.basics.specs.Same.{OneAnswer}
use Rattle.basics.specs.Laws.Same.{same}
use Rattle.chart.proofs.has_pages.Reads as has_pages_lem
use Rattle.chart.proofs.is_paged.Reads as is-paged
use Rattle.chart.proofs.shown_at.Reads as shown_at_lem
use Rattle.chart.proofs.leaf_at.Reads as leaf-at

pub one_has_pages : OneAnswer has_pages_lem.Learnt
one_has_pages κs a y z e f = same

pub one_is_paged : OneAnswer is-paged.Learnt
one_is_paged κs a y z e f = same

pub one_shown_at : OneAnswer shown_at_lem.Learnt
one_shown_at κs a y z e f = same

pub one_leaf_at : OneAnswer leaf-at.Learnt
one_leaf_at κs a y z e f = same
