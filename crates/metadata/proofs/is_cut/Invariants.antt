-- `metadata::is_cut` meets its contract. The loop's invariant: whole sub-records stand before p.
use Prim.Native.Nat.{◌-◌}
use lib.ListN.{length}
use Rattle.metadata.specs.Laws.Walk.{Reached}
use Rattle.metadata.proofs.is_cut.Given as goal

abbrev pub invariant-loop-text : goal.invariant-loop-text
invariant-loop-text l = Reached l.s l.p

abbrev pub decreases-loop-text : goal.decreases-loop-text
decreases-loop-text l = length l.s - l.p
