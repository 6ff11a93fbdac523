-- `metadata::seek` meets its contract. The loop's invariant: what is left, with so many texts to pass, answers what the whole does.
use Prim.Native.Nat.{◌-◌}
use lib.ListN.{length}
use Rattle.metadata.proofs.Laws.{Seeking}
use Rattle.metadata.proofs.seek.Given as goal

abbrev pub invariant-loop-t : goal.invariant-loop-t
invariant-loop-t l = Seeking l.s l.tag l.n l.p l.left

abbrev pub decreases-loop-t : goal.decreases-loop-t
decreases-loop-t l = length l.s - l.p
