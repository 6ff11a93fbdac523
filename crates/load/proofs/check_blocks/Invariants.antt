-- `load::check_blocks` meets its contract. The invariant: the blocks before p refuse nothing, and were counted.
use Prim.Native.Nat.{◌-◌}
use lib.ListN.{length}
use Rattle.load.proofs.Loops.{Checking}
use Rattle.load.proofs.check_blocks.Given as goal

abbrev pub invariant-loop-next : goal.invariant-loop-next
invariant-loop-next l = Checking l.s l.m l.p l.tables l.blocks l.words

abbrev pub decreases-loop-next : goal.decreases-loop-next
decreases-loop-next l = length l.s - l.p
