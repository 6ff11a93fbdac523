-- `layout::pages::number` meets its contract. The loop's invariant: the first s slots are numbered.
use Rattle.layout.proofs.Numbering.{Numbering}
use Rattle.layout.proofs.pages.number.Given as goal

abbrev pub invariant-loop-s : goal.invariant-loop-s
invariant-loop-s l = Numbering l.used l.page l.slot l.n l.s
