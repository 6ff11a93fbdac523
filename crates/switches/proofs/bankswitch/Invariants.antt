-- `switches::bankswitch` meets its contract. The loop's invariant: the first j paragraphs of the half-page have their numbers.
use Rattle.std.proofs.Common.{◌≡◌, ◌-◌, ◌*◌, ◌≤◌}
use Rattle.basics.specs.Lists.{laid}
use Rattle.switches.specs.Banks.{half_page_paragraphs, number_from}
use Rattle.switches.proofs.bankswitch.Given as goal

abbrev pub invariant-loop-j : goal.invariant-loop-j
invariant-loop-j l = (l.j ≤ half_page_paragraphs) × (l.mapping ≡ laid (half_page_paragraphs * l.h) l.j (number_from l.v) l.initial.mapping)

abbrev pub decreases-loop-j : goal.decreases-loop-j
decreases-loop-j l = half_page_paragraphs - l.j
