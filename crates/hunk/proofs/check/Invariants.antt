-- `hunk::check` meets its contract. The loop's invariant: the data blocks before p are whole, and their n words lie in the RAM.
use Prim.Native.Nat.{◌-◌}
use lib.ListN.{length}
use Rattle.hunk.proofs.Loops.{Checking}
use Rattle.hunk.proofs.check.Given as goal

abbrev pub invariant-loop-d : goal.invariant-loop-d
invariant-loop-d l = Checking l.s l.m l.at l.p l.n

abbrev pub decreases-loop-d : goal.decreases-loop-d
decreases-loop-d l = length l.s - l.p
