-- Laws of the window: what a range holds, and where the RAM's words lie.
use Rattle.std.specs.Prelude.{ℕ, ◌≤◌, ◌<◌, true, false, ◌≡◌, leb}
use Rattle.std.proofs.Common.{arith}
use borrow.Author.Tests.{le-leb, lt-leb, leb-true}
use Rattle.basics.specs.Laws.Tests.{and_left, and_right, true_is_not_false}
use Rattle.places.specs.declared.Console.{Console}
use Rattle.jlp.specs.Window.{between, in_ram, ram_location, ram_words}

module _ (low high a : ℕ) where
  pub between_low : between low high a ≡ true → low ≤ a
  unfolding between
  between_low e = leb-true low a (and_left (leb low a) (leb a high) e)

  pub between_high : between low high a ≡ true → a ≤ high
  unfolding between
  between_high e = leb-true a high (and_right (leb low a) (leb a high) e)

  pub between_in : low ≤ a → a ≤ high → between low high a ≡ true
  unfolding between
  between_in h k = rw (le-leb _ _ h, le-leb _ _ k)

  pub between_out : between low high a ≡ false → low ≤ a → a ≤ high → ⊥
  between_out e h k = true_is_not_false (between_in h k) e

  pub between_below : a < low → between low high a ≡ false
  unfolding between
  between_below h = rw (lt-leb _ _ h)

-- so many lent words hold all of the RAM (02, W-206)
pub ram_lent_lem : (at : Console) → in_ram at ≡ true → (ram_location at).0 < ram_words
ram_lent_lem at e = omega (arith, between_high _ _ _ e)
