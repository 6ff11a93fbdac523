-- `recovery::copy_blocks` meets its contract. The invariant: the kept blocks before p are written.
use Prim.Native.Nat.{◌-◌}
use lib.ListN.{length}
use Rattle.recovery.proofs.Loops.{Copying}
use Rattle.recovery.proofs.copy_blocks.Given as goal

abbrev pub invariant-loop-q : goal.invariant-loop-q
invariant-loop-q l = Copying l.s l.initial.out l.out l.p l.n l.at

abbrev pub decreases-loop-q : goal.decreases-loop-q
decreases-loop-q l = length l.s - l.p
