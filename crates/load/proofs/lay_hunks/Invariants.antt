-- `load::lay_hunks` meets its contract. The invariant: the hunks of the blocks before p are stored.
use Prim.Native.Nat.{◌-◌}
use lib.ListN.{length}
use Rattle.load.proofs.Loops.{Storing}
use Rattle.load.proofs.lay_hunks.Given as goal

abbrev pub invariant-loop-t : goal.invariant-loop-t
invariant-loop-t l = Storing l.image l.p l.initial.ram l.ram

abbrev pub decreases-loop-t : goal.decreases-loop-t
decreases-loop-t l = length l.image - l.p
