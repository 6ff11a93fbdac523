-- W-211: readable paragraphs at a glance (02).
use Rattle.std.specs.Prelude.{ℕ, ◌%◌, List, ◌≡◌, eqb, get_or}
use Rattle.basics.specs.Counts.{count}
use Rattle.load.specs.Load.{loading_of}
use Rattle.cart.specs.Run.{Access, after}
use Rattle.demands.specs.Pressing.{world_of}

-- "how many of the 256 active paragraphs have READ"
abbrev pub have_read : List ℕ → ℕ
have_read permissions = count (λ p. eqb (get_or permissions p 0 % 2) 1) 256

pub record W211 : Type 0 where
  -- "load, flip, bankswitch and reset leave it equal to the count over the active permissions": after any load and any accesses
  pub counted : (s : List ℕ) (m f : ℕ) (flash ram : List ℕ) (xs : List Access)
      → (after (world_of (loading_of s m f) flash ram) xs).cartridge.readable
      ≡ have_read (after (world_of (loading_of s m f) flash ram) xs).cartridge.permissions
  -- "A refused load has 0."
  pub refused : (s : List ℕ) (m f : ℕ) → ((loading_of s m f).refusal.number ≡ 0 → ⊥) → (loading_of s m f).cartridge.readable ≡ 0
