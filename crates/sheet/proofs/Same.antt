-- Any two answers that the promise of a public function allows are equal (01, What the promises rule out).
use Rattle.basics.specs.Same.{OneAnswer, OneSeen}
use Rattle.basics.specs.Laws.Same.{same}
use Rattle.sheet.proofs.Sheet.as_bytes.Reads as as-bytes
use Rattle.sheet.proofs.sheet_of.Reads as sheet-of

pub one_sheet_of : OneAnswer sheet-of.Learnt
one_sheet_of κs a y z e f = same

pub one_as_bytes : OneSeen as-bytes.Learnt (λ κs y. y.now)
one_as_bytes κs a y z e f = same
