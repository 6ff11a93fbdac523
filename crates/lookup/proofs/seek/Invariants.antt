-- `lookup::seek` meets its contract. The loop's invariant: the blocks before have too few texts, and so many are still to be passed.
use Prim.Native.Nat.{◌-◌}
use lib.ListN.{length}
use Rattle.lookup.proofs.Laws.{Seeking}
use Rattle.lookup.proofs.seek.Given as goal

abbrev pub invariant-loop-t : goal.invariant-loop-t
invariant-loop-t l = Seeking l.image l.tag l.n l.p l.left

abbrev pub decreases-loop-t : goal.decreases-loop-t
decreases-loop-t l = length l.image - l.p
