-- `lending::blank_ram` meets its contract: a repeat has as many elements as it says, and none of them is counted here.
use Prim.Native.Nat.{ℕ}
use mathlib.Core.Path.{refl, sym}
use lib.ListN.{length-replicate}
use Rattle.places.specs.Limits.{lent_limit}
use Rattle.lending.proofs.blank_ram.Goals as goal

pub returns : goal.returns
returns c = (refl, sym (length-replicate {A = ℕ} lent_limit 0))
