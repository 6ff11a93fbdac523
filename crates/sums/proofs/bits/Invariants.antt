-- `sums::bits` meets its contract. The invariant: x is what k bits make of c.
use mathlib.Core.Path.{◌≡◌}
use Rattle.sums.specs.Crc.{crc_bits}
use Rattle.sums.proofs.bits.Given as goal

abbrev pub invariant-loop-k : goal.invariant-loop-k
invariant-loop-k l = l.x ≡ crc_bits l.p l.k l.c
