-- `recovery::drops` meets its contract. The invariant: the places before p are listed.
use Prim.Native.Nat.{◌-◌}
use lib.ListN.{length}
use Rattle.recovery.proofs.Loops.{Listing}
use Rattle.recovery.proofs.drops.Given as goal

abbrev pub invariant-loop-q : goal.invariant-loop-q
invariant-loop-q l = Listing l.image l.initial.places l.places l.p l.n

abbrev pub decreases-loop-q : goal.decreases-loop-q
decreases-loop-q l = length l.image - l.p
