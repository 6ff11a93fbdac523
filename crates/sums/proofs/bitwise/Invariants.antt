-- `sums::bitwise` meets its contract. The invariant: the bytes that are left make of x what all make of c.
use mathlib.Core.Path.{◌≡◌}
use lib.ListN.{drop}
use Rattle.sums.specs.Crc.{crc_from}
use Rattle.sums.proofs.bitwise.Given as goal

abbrev pub invariant-loop-b : goal.invariant-loop-b
invariant-loop-b l = crc_from l.p l.x (drop l.b-index l.s) ≡ crc_from l.p l.c l.s
