-- `sums::bits` meets its contract. The invariant: x is what k bits make of c.
use mathlib.Core.Path.{◌≡◌, refl}
use native.Mathlib.Omega.{arith}
use borrow.Author.Rules.{rules}
use Rattle.sums.specs.Crc.{crc_bits}
use Rattle.sums.specs.Laws.Crc.{bits_next}
use Rattle.sums.proofs.bits.Goals as goal

pub loop-k-init : goal.loop-k-init
unfolding crc_bits
loop-k-init c = refl

pub returns : goal.returns
returns c =
    let k : c.loop-k.k ≡ c.args.n = omega arith in
    rw k at c.loop-k.invariant

pub loop-k-preserved : goal.loop-k-preserved
loop-k-preserved c = search (rules, bits_next)
