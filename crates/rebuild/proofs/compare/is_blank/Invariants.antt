-- `rebuild::compare::is_blank` meets its contract. The loop's invariant: it is known whether the first i words are zeros.
use Rattle.std.specs.Prelude.{◌+◌, ◌*◌, eqb, get_or}
use Rattle.places.specs.Limits.{paragraph_size}
use Rattle.basics.specs.Laws.Joined.{Everywhere}
use Rattle.rebuild.proofs.compare.is_blank.Given as goal

abbrev pub invariant-loop-i : goal.invariant-loop-i
invariant-loop-i l = Everywhere paragraph_size (λ j. eqb (get_or l.ram (paragraph_size * l.p + j) 0) 0) l.i l.blank
