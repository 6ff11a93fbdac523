-- The number of readable paragraphs is the count, for every image and every list of accesses behind its load (02, W-211).
use Rattle.std.specs.Prelude.{ℕ, List, ◌≡◌, false}
use Rattle.std.proofs.lemmas.List.{length-replicate}
use Rattle.basics.specs.Laws.Tables.{length_table}
use Rattle.basics.specs.Laws.Tests.{cases}
use Rattle.places.specs.Limits.{paragraphs, flip_entries}
use Rattle.cart.specs.Readable.{readable_of}
use Rattle.cart.specs.Run.{Access, World, after}
use Rattle.cart.proofs.Theorems.Readable.{Counted, fresh_counted, after_counted, none_readable}
use Rattle.tables.specs.Tables.{tables_in, cartridge_of}
use Rattle.load.specs.Load.{loads, loading_of}

module _ (s : List ℕ) (m f : ℕ) where
  -- a cartridge that a load answers, refused or not
  loading_counted : Counted (loading_of s m f).cartridge
  unfolding loading_of cartridge_of tables_in
  loading_counted =
      cases (loads s m f) (λ e. rw e (fresh_counted _ _ _ _ (length_table paragraphs _))) (λ e. rw e (fresh_counted _ _ _ _ (length-replicate {A = ℕ} flip_entries 0)))

  abbrev world : List ℕ → List ℕ → World
  world flash ram = record { cartridge = (loading_of s m f).cartridge; flash = flash; ram = ram }

  pub always_counted : (flash ram : List ℕ) (xs : List Access)
      → (after (world flash ram) xs).cartridge.readable ≡ readable_of (after (world flash ram) xs).cartridge.permissions
  always_counted flash ram xs = (after_counted (world flash ram) xs loading_counted).readable

  -- a refused load has 0
  pub refused_none : loads s m f ≡ false → (loading_of s m f).cartridge.readable ≡ 0
  unfolding loading_of
  refused_none e = rw e none_readable
