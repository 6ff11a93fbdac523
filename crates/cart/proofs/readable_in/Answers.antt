-- `cart::readable_in` meets its contract. The loop's invariant: k is the count of the first i.
use Rattle.std.proofs.Common.{rules}
use Rattle.cart.proofs.Theorems.Readable.{readable_none, readable_next, readable_done}
use Rattle.cart.proofs.readable_in.Goals as goal

pub loop-i-init : goal.loop-i-init
loop-i-init c = search (rules, readable_none)

pub loop-i-preserved : goal.loop-i-preserved
loop-i-preserved c = search (rules, readable_next)

pub returns : goal.returns
returns c = search (rules, readable_done)
