-- `sums::bytes` meets its contract. The invariant: the bytes that are left make of x what all make of c.
use mathlib.Core.Path.{◌≡◌}
use lib.ListN.{drop}
use Rattle.sums.specs.Tables.{by_bytes}
use Rattle.sums.proofs.bytes.Given as goal

abbrev pub invariant-loop-b : goal.invariant-loop-b
invariant-loop-b l = by_bytes l.t l.x (drop l.b-index l.s) ≡ by_bytes l.t l.c l.s
