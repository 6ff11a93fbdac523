-- `sums::bitwise` meets its contract. The invariant: the bytes that are left make of x what all make of c.
use mathlib.Core.Path.{refl}
use borrow.Author.Rules.{rules}
use Rattle.sums.proofs.Laws.{from_next, from_end}
use Rattle.sums.proofs.bitwise.Goals as goal

pub loop-b-init : goal.loop-b-init
loop-b-init c = refl

pub loop-b-preserved : goal.loop-b-preserved
loop-b-preserved c = search (rules, from_next)

pub returns : goal.returns
returns c = search (rules, from_end)
