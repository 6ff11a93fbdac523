-- `rules::line_fault` meets its contract. The loop's invariant: the lines before line k pass 25 and 26.
use Rattle.rules.proofs.Checked.{Checked}
use Rattle.rules.proofs.line_fault.Given as goal

abbrev pub invariant-loop-l : goal.invariant-loop-l
invariant-loop-l l = Checked l.words l.lines l.l-index
