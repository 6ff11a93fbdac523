-- `owners::least` meets its contract. The loop's invariant: r is the least of the numbers before place i.
use lib.ListN.{get_or, length}
use Rattle.owners.proofs.Loops.{Least}
use Rattle.owners.proofs.least.Given as goal

abbrev pub invariant-loop-n : goal.invariant-loop-n
invariant-loop-n l = Least (length l.numbers) (λ i. get_or l.numbers i 0) l.n-index l.r
