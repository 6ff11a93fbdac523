-- The two ways out: an image too short for flags, and one that has them.
use Prim.Native.Nat.{◌*◌, ◌<◌, ◌≤◌, ℕ}
use mathlib.Core.List.{List}
use mathlib.Core.Path.{◌≡◌, ap}
use lib.ListN.{length}
use borrow.Author.Tests.{le-ltb, lt-ltb}
use Rattle.header.specs.Header.{flags_of, uid_at}
use Rattle.flash.specs.Flash.{sector_words}
use Rattle.jlp.specs.declared.Jlp.{Jlp}
use Rattle.tables.specs.Tables.{jlp_of}
use Rattle.lending.specs.Lending.{flash_for}

module _ (image : List ℕ) where
  pub asks_none : length image < uid_at → 0 ≡ flash_for image
  unfolding flash_for
  asks_none h = rw (lt-ltb _ _ h)

  pub asks_some : uid_at ≤ length image → (j : Jlp) → j ≡ jlp_of (flags_of image) → j.saves.sectors * sector_words ≡ flash_for image
  unfolding flash_for
  asks_some h j e = rw (le-ltb _ _ h) (ap (λ (k : Jlp). k.saves.sectors * sector_words) e)
