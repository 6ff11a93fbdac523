-- Laws of writes: a cell and a request as the code comes to them, and what a write leaves by the taker that the code has found.
use Rattle.std.specs.Prelude.{◌≡◌, ℕ, true, not, List}
use Rattle.std.proofs.Common.{sym, ◌∙◌}
use Rattle.std.proofs.Math.Path.{ap}
use borrow.Author.Tests.{not-true}
use Rattle.places.specs.declared.Console.{Console}
use Rattle.switches.specs.Flips.{Active}
use Rattle.flash.specs.Flash.{memories}
use Rattle.jlp.specs.declared.Jlp.{Jlp}
use Rattle.cart.specs.declared.Cell.{Cell}
use Rattle.cart.specs.declared.Taker.{Taker}
use Rattle.cart.specs.Writes.{stored, taker_of, left_by, memories_by, assigned_by, readable_by, leaves, leaves_ram, leaves_flash, assigned, leaves_readable}

-- a cell that its rights shut
pub store_shut : (c : Cell) (ram : List ℕ) (v : ℕ) → not c.rights.write ≡ true → ram ≡ stored c ram v
unfolding stored
store_shut c ram v r = rw (not-true c.rights.write r)

-- one law for every taker w, of each thing that a write leaves
module _ (j : Jlp) (a : Active) (flips : List ℕ) (at : Console) (v : ℕ) (t w : Taker) (h : t ≡ taker_of j a flips at v) (e : t ≡ w) where
  pub by_mapping : (x : List ℕ) → x ≡ (left_by w a flips).mapping → x ≡ (leaves j a flips at v).mapping
  unfolding leaves
  by_mapping x g = rw (← h, e, g)

  pub by_permissions : (x : List ℕ) → x ≡ (left_by w a flips).permissions → x ≡ (leaves j a flips at v).permissions
  unfolding leaves
  by_permissions x g = rw (← h, e, g)

  pub by_ram : (flash ram x : List ℕ) → x ≡ (memories_by w j.saves (memories flash ram) at v).ram → x ≡ leaves_ram j a flips flash ram at v
  unfolding leaves_ram
  by_ram flash ram x g = g ∙ ap (λ (u : Taker). (memories_by u j.saves (memories flash ram) at v).ram) (sym e ∙ h)

  pub by_flash : (flash ram x : List ℕ) → x ≡ (memories_by w j.saves (memories flash ram) at v).flash → x ≡ leaves_flash j a flips flash ram at v
  unfolding leaves_flash
  by_flash flash ram x g = g ∙ ap (λ (u : Taker). (memories_by u j.saves (memories flash ram) at v).flash) (sym e ∙ h)

  pub by_readable : (kept x : ℕ) → x ≡ readable_by w a flips kept → x ≡ leaves_readable j a flips kept at v
  unfolding leaves_readable
  by_readable kept x g = rw (← h, e, g)

  pub by_assigned : (x : ℕ) → x ≡ assigned_by w → x ≡ assigned j a flips at v
  unfolding assigned
  by_assigned x g = rw (← h, e, g)

pub ruleset writes = (by_mapping, by_permissions, by_ram, by_flash, by_readable, by_assigned)
