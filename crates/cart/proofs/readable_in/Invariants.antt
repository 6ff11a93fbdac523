-- `cart::readable_in` meets its contract. The loop's invariant: k is the count of the first i.
use Rattle.std.proofs.Common.{◌≡◌, ◌-◌, ◌≤◌}
use Rattle.cart.specs.Readable.{readable_in}
use Rattle.cart.proofs.readable_in.Given as goal

abbrev pub invariant-loop-i : goal.invariant-loop-i
invariant-loop-i l = (l.i ≤ l.n) × (l.k ≡ readable_in l.permissions l.a l.i) × (l.k ≤ l.i)

abbrev pub decreases-loop-i : goal.decreases-loop-i
decreases-loop-i l = l.n - l.i
