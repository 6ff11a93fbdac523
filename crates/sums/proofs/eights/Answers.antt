-- `sums::eights` meets its contract. The invariant: x is the sum of the first n eights.
use Prim.Native.Nat.{◌/◌}
use mathlib.Core.Path.{◌≡◌, refl}
use native.Mathlib.Omega.{arith}
use lib.ListN.{length}
use borrow.Author.Rules.{rules}
use Rattle.sums.specs.Tables.{by_eights}
use Rattle.sums.proofs.Laws.{eights_next}
use Rattle.sums.proofs.eights.Goals as goal

pub loop-n-init : goal.loop-n-init
unfolding by_eights
loop-n-init c = (search rules, refl)

pub returns : goal.returns
returns c =
    let n : c.loop-n.n ≡ length c.args.s.now / 8 = omega arith in
    rw n at c.loop-n.invariant.1

pub loop-n-preserved : goal.loop-n-preserved
loop-n-preserved c = search (rules, eights_next)
