-- Bankswitches over writes and runs: a switch leaves the next one possible, a flip ends them, and only a reset brings them back.
use Rattle.std.specs.Prelude.{◌≡◌, ℕ, ◌%◌, Bool, true, false, List, [], ◌∷◌, slice_index, refl, Option, Some, None}
use Rattle.std.proofs.Math.Path.{ap}
use Rattle.std.proofs.Common.{arith}
use Rattle.basics.specs.Laws.Tests.{true_is_not_false}
use Rattle.places.specs.declared.Console.{Console}
use Rattle.switches.specs.Flips.{Active, asks}
use Rattle.switches.specs.Banks.{register_at, BANKSW, banked, bankswitched}
use Rattle.switches.specs.Laws.Banks.{flip_leaves_clear, register_low}
use Rattle.flash.specs.Flash.{memories}
use Rattle.jlp.specs.declared.Jlp.{Jlp}
use Rattle.jlp.specs.Window.{window_start, window_end}
use Rattle.jlp.specs.Accelerators.{takes}
use Rattle.jlp.specs.Laws.Window.{between_below}
use Rattle.jlp.specs.Laws.Accelerators.{outside_takes}
use Rattle.cart.specs.declared.Cartridge.{Cartridge}
use Rattle.cart.specs.declared.Taker.{Taker}
use Rattle.cart.specs.declared.Taker.TheVariants.{Accelerators, Bank, Flip, Ram}
use Rattle.cart.specs.Cells.{cell_at}
use Rattle.cart.specs.Writes.{bank_taker, flip_taker, mapped_taker, taker_of, left_by, memories_by, leaves, leaves_ram}
use Rattle.cart.specs.Cartridges.{active_of, reset_of}
use Rattle.cart.specs.Run.{Access, Read, Write, Reset, World, step, after}

-- a write to the register of a half-page that may be switched: it switches, stores nothing, and the next one switches too
module _ (j : Jlp) (a : Active) (flips : List ℕ) (at : Console) (h : ℕ) (r : register_at at ≡ Some h) (b : banked a.permissions h ≡ true) where
  -- the registers stand below the accelerators' window
  not_theirs : (v : ℕ) → takes j at v ≡ false
  not_theirs v = outside_takes j at v (between_below window_start window_end at.0 (omega (arith, register_low at h r)))

  pub switch_takes : (v : ℕ) → taker_of j a flips at v ≡ Bank h (v % 256)
  switch_takes v = rw (not_theirs v, r, b)

  pub switch_leaves : (v : ℕ) → leaves j a flips at v ≡ bankswitched h (v % 256) a
  unfolding leaves
  switch_leaves v = rw (switch_takes v)

  pub switch_stores_nothing : (flash ram : List ℕ) (v : ℕ) → leaves_ram j a flips flash ram at v ≡ ram
  unfolding leaves_ram
  switch_stores_nothing flash ram v = ap (λ (t : Taker). (memories_by t j.saves (memories flash ram) at v).ram) (switch_takes v)

  pub switch_again : (v w : ℕ) → taker_of j (leaves j a flips at v) flips at w ≡ Bank h (w % 256)
  switch_again v w = rw (not_theirs w, switch_leaves v, r, b)

-- where no half-page may be switched, a register is an ordinary address
ordinary_by : (permissions : List ℕ) (r : Option ℕ) (v : ℕ) (next : Taker) → ((h : ℕ) → banked permissions h ≡ false) → bank_taker permissions r v next ≡ next
ordinary_by permissions (Some h) v next n = rw (n h)
ordinary_by permissions None v next n = refl

pub ordinary : (a : Active) (flips : List ℕ) (at : Console) (v : ℕ) → ((h : ℕ) → banked a.permissions h ≡ false)
    → mapped_taker a flips at v ≡ flip_taker flips (asks at v) (Ram (cell_at a at))
ordinary a flips at v n = ordinary_by a.permissions (register_at at) v _ n

-- no write sets BANKSW where it is clear
abbrev has : List ℕ → ℕ → Bool
has permissions p = BANKSW (slice_index permissions p)

left_clear : (t : Taker) (a : Active) (flips : List ℕ) (p : ℕ) → has a.permissions p ≡ false → has (left_by t a flips).permissions p ≡ false
left_clear Accelerators a flips p e = e
left_clear (Bank h v) a flips p e = e
left_clear (Flip n) a flips p e = flip_leaves_clear flips n a p e
left_clear (Ram c) a flips p e = e

-- so only a reset, which copies the initial permissions, brings it back
abbrev pub unreset : List Access → Bool
unreset [] = true
unreset (Read a ∷ xs) = unreset xs
unreset (Write a v ∷ xs) = unreset xs
unreset (Reset ∷ xs) = false

pub stays_clear : (w : World) (xs : List Access) (p : ℕ) → unreset xs ≡ true → has w.cartridge.permissions p ≡ false
    → has (after w xs).cartridge.permissions p ≡ false
unfolding leaves
stays_clear w [] p u e = e
stays_clear w (Read a ∷ xs) p u e = stays_clear w xs p u e
stays_clear w (Write a v ∷ xs) p u e =
    stays_clear (step w (Write a v)) xs p u
    (left_clear (taker_of w.cartridge.jlp (active_of w.cartridge) w.cartridge.flips a v) (active_of w.cartridge) w.cartridge.flips p e)
stays_clear w (Reset ∷ xs) p u e = true_is_not_false u refl

pub reset_restores : (c : Cartridge) (h : ℕ) → banked (reset_of c).permissions h ≡ banked c.initial_permissions h
reset_restores c h = refl
