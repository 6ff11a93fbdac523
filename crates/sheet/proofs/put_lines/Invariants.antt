-- `sheet::put_lines` meets its contract. The loop's invariant: the lines so far are put.
use Rattle.sheet.proofs.Loops.{Lining}
use Rattle.sheet.proofs.put_lines.Given as goal

abbrev pub invariant-loop-l : goal.invariant-loop-l
invariant-loop-l l = Lining l.lines l.initial.out l.out l.at l.l-index
