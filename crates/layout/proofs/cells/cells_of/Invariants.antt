-- `layout::cells::cells_of` meets its contract. The loop's invariant: the cells have the numbers of the first k lines.
use Rattle.layout.proofs.Claiming.{Numbers}
use Rattle.layout.proofs.cells.cells_of.Given as goal

abbrev pub invariant-loop-k : goal.invariant-loop-k
invariant-loop-k l = Numbers l.lines l.k l.numbers
