-- `accesses::check_lines` meets its contract. The invariant: what is left of the list goes on from what was counted.
use Prim.Native.Nat.{◌-◌}
use lib.ListN.{length}
use Rattle.accesses.proofs.Checks.{Checking}
use Rattle.accesses.proofs.check_lines.Given as goal

abbrev pub invariant-loop-at : goal.invariant-loop-at
invariant-loop-at l = Checking l.list l.at l.lines l.reads

abbrev pub decreases-loop-at : goal.decreases-loop-at
decreases-loop-at l = length l.list - l.at
