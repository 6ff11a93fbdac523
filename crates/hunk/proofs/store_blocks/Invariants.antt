-- `hunk::store_blocks` meets its contract. The loop's invariant: the words of the data blocks before p are laid.
use Prim.Native.Nat.{◌-◌}
use lib.ListN.{length}
use Rattle.hunk.proofs.Loops.{Storing}
use Rattle.hunk.proofs.store_blocks.Given as goal

abbrev pub invariant-loop-d : goal.invariant-loop-d
invariant-loop-d l = Storing l.s l.at l.p l.initial.ram l.ram

abbrev pub decreases-loop-d : goal.decreases-loop-d
decreases-loop-d l = length l.s - l.p
