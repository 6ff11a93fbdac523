-- `fill::decimal` is safe and ends. The loop's invariant: the place of the last digit that was put lies in the buffer.
use Rattle.std.proofs.Common.{◌≤◌}
use Rattle.cases.proofs.fill.decimal.Given as goal

abbrev pub invariant-loop-i : goal.invariant-loop-i
invariant-loop-i l = l.i ≤ 20

abbrev pub decreases-loop-i : goal.decreases-loop-i
decreases-loop-i l = l.i
