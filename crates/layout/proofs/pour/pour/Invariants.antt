-- `layout::pour::pour` meets its contract. The loop's invariant: the first p paragraphs are written.
use Rattle.layout.proofs.Laying.{Pouring}
use Rattle.layout.specs.Code.Pour.{written_in}
use Rattle.layout.proofs.pour.pour.Given as goal

abbrev pub invariant-loop-p : goal.invariant-loop-p
invariant-loop-p l = Pouring l.initial.ram l.n (written_in l.bin l.lines l.s) l.p l.ram
