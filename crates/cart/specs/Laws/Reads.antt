-- Laws of reads: a cell as the code comes to it, and what a read gets by the source that the code has found.
use Rattle.std.specs.Prelude.{◌≡◌, ℕ, true, not, List, Option, None}
use borrow.Author.Tests.{not-true}
use Rattle.places.specs.declared.Console.{Console}
use Rattle.switches.specs.Flips.{Active}
use Rattle.jlp.specs.declared.Jlp.{Jlp}
use Rattle.cart.specs.declared.Cell.{Cell}
use Rattle.cart.specs.declared.Source.{Source}
use Rattle.cart.specs.Reads.{fetched, source_of, given_by, read_by}

-- shut by its rights
module _ (c : Cell) (ram : List ℕ) where
  pub fetch_shut : not c.rights.read ≡ true → None ≡ fetched c ram
  unfolding fetched
  fetch_shut r = rw (not-true c.rights.read r)

-- one law for every source w
pub by_source : (j : Jlp) (a : Active) (at : Console) (s w : Source) → s ≡ source_of j a at → s ≡ w → (ram : List ℕ) (r : Option ℕ) → r ≡ given_by w ram → r ≡ read_by j a ram at
unfolding read_by
by_source j a at s w h e ram r g = rw (← h, e, g)
