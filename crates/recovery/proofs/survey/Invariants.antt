-- `recovery::survey` meets its contract. The invariant: the blocks before p are surveyed and noted.
use Prim.Native.Nat.{◌-◌}
use lib.ListN.{length}
use Rattle.recovery.proofs.Loops.{Surveying}
use Rattle.recovery.proofs.survey.Given as goal

abbrev pub invariant-loop-stopped : goal.invariant-loop-stopped
invariant-loop-stopped l = Surveying l.s l.initial.notes l.notes l.p l.late l.kept l.dropped l.long

abbrev pub decreases-loop-stopped : goal.decreases-loop-stopped
decreases-loop-stopped l = length l.s - l.p
