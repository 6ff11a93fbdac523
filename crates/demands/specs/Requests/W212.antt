-- W-212: how much a write may move (02).
use Rattle.std.specs.Prelude.{ℕ, ◌≤◌}
use Rattle.places.specs.declared.Console.{Console}
use Rattle.cart.specs.Run.{World}
use Rattle.demands.specs.Machine.{Flips, Switches, Ordinary, Flipped, Switched, Stored, after_write, reported}

pub record W212 : Type 0 where
  -- "16 for a flip, 8 for a flip in chapter 4 or a bankswitch, 0 otherwise, also where the new value equals the old"; "all entries outside the
  -- switched chapter or half-page stay the same": fields `reports` and `other_mapping` of Flipped and Switched
  pub flips : (w : World) (at : Console) (v : ℕ) → Flips w.cartridge at v → Flipped w (after_write w at v) v (reported w at v)
  pub switches : (w : World) (at : Console) (v h : ℕ) → Switches w.cartridge at h → Switched w (after_write w at v) h v (reported w at v)
  pub others : (w : World) (at : Console) (v : ℕ) → Ordinary w.cartridge at v → Stored w (after_write w at v) at v (reported w at v)
  -- "Prove that it is never above 16"
  pub most : (w : World) (at : Console) (v : ℕ) → reported w at v ≤ 16
