-- W-202: Intellicart bankswitching (02). What a switch leaves is Machine.switches, of every half-page number h.
use Rattle.std.specs.Prelude.{ℕ, ◌/◌, ◌%◌, ◌<◌, ◌≤◌, List, ◌≡◌, length, get_or}
use Rattle.places.specs.declared.Console.{Console}
use Rattle.cart.specs.Run.{World, Access, Reset, step, after}
use Rattle.demands.specs.Pressing.{Pressing, world_of}
use Rattle.demands.specs.Demand3.{Playable}
use Rattle.demands.specs.Machine.{Flips, Switches, Switched, first_changed, after_write, reported}

-- BANKSW, bit 3 of a permission
abbrev pub banksw_of : List ℕ → ℕ → ℕ
banksw_of permissions p = get_or permissions p 0 / 8 % 2

pub record W202 : Type 0 where
  -- "A write to $0040-$004F switches half-page $x000-$x7FF .. the half-page's eight paragraphs take that number and the seven after it,
  -- going round from 255 to 0"; "a write that switches stores nothing": proved once over the half-page number
  pub switches : (w : World) (at : Console) (v h : ℕ) → Switches w.cartridge at h → Switched w (after_write w at v) h v (reported w at v)
  -- "the permissions that result .. are 001's": a switch leaves them, so that the next one acts
  pub again : (w : World) (at : Console) (v h : ℕ) → Switches w.cartridge at h → Switches (after_write w at v).cartridge at h
  -- "how page flips interact": a flip clears BANKSW in what it changes, no write sets it, and a reset brings it back
  pub flip_clears : (w : World) (at : Console) (v p : ℕ) → Flips w.cartridge at v → p < length w.cartridge.permissions
      → p / 16 ≡ v / 0x1000 → first_changed (v / 0x1000) ≤ p % 16 → banksw_of (after_write w at v).cartridge.permissions p ≡ 0
  pub never_set : (w : World) (at : Console) (v p : ℕ) → banksw_of w.cartridge.permissions p ≡ 0
      → banksw_of (after_write w at v).cartridge.permissions p ≡ 0
  pub reset_restores : (w : World) (p : ℕ) → banksw_of (step w Reset).cartridge.permissions p ≡ banksw_of w.cartridge.initial_permissions p
  -- "demand 3 stays, since the builder sets no BANKSW bit": no access ever sets one in a built cartridge
  pub built : (p : Pressing) → Playable p → (xs : List Access) (q : ℕ)
      → banksw_of (after (world_of p.loading p.flash p.stored) xs).cartridge.permissions q ≡ 0
