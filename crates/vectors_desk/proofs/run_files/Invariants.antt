-- `run_files` is safe and ends: the buffers keep their lengths.
use Prim.Native.Nat.{◌≤◌, ◌-◌}
use Rattle.vectors_desk.proofs.run_files.Given as goal

abbrev pub invariant-loop-k : goal.invariant-loop-k
invariant-loop-k l = l.k ≤ 6

abbrev pub decreases-loop-k : goal.decreases-loop-k
decreases-loop-k l = 6 - l.k
