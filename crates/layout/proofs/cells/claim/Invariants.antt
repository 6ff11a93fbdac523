-- `layout::cells::claim` meets its contract. The loop's invariant: the first p cells of the layer are claimed.
use Rattle.layout.proofs.Claiming.{Claiming}
use Rattle.layout.proofs.cells.claim.Given as goal

abbrev pub invariant-loop-p : goal.invariant-loop-p
invariant-loop-p l = Claiming l.e l.number l.t l.initial.numbers l.p l.numbers
