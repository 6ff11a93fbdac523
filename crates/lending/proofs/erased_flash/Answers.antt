-- `lending::erased_flash` meets its contract: a repeat has as many elements as it says, and none of them is counted here.
use Prim.Native.Nat.{ℕ}
use mathlib.Core.Path.{refl, sym}
use lib.ListN.{length-replicate}
use Rattle.flash.specs.Flash.{erased_word}
use Rattle.lending.specs.Lending.{flash_limit}
use Rattle.lending.proofs.erased_flash.Goals as goal

pub returns : goal.returns
returns c = (refl, sym (length-replicate {A = ℕ} flash_limit erased_word))
