-- The short ways are the cartridge's own: what they hear and leave is what its reads and writes do, whatever else is lent.
use Rattle.std.specs.Prelude.{ℕ, ◌/◌, ◌%◌, List, ◌≡◌, refl, Bool, true, false, not, ◌&&◌, eqb, Some, None}
use Rattle.std.proofs.Common.{sym, ap, subst, ◌∙◌, arith}
use borrow.Author.Tests.{ne_eqb, eqb-false}
use Rattle.basics.specs.Laws.Tests.{cases, and_left, and_right, and_false, or_false_left, or_false_right, true_is_not_false}
use Rattle.places.specs.declared.Console.{Console}
use Rattle.switches.specs.Flips.{Active, asks}
use Rattle.switches.specs.Banks.{register_at}
use Rattle.jlp.specs.declared.Jlp.{Jlp}
use Rattle.jlp.specs.Window.{in_window, in_ram, on_at}
use Rattle.jlp.specs.Accelerators.{turns_on, takes, latches, written_jlp}
use Rattle.jlp.specs.Laws.Accelerators.{turns_on_exactly, on_takes, unlatched}
use Rattle.registers.specs.Words.{words_of, jlp_from}
use Rattle.registers.specs.Code.Tidy.{Tidy}
use Rattle.cart.specs.declared.Cell.{Cell}
use Rattle.cart.specs.declared.Taker.TheVariants.{Ram}
use Rattle.cart.specs.Cells.{cell_at, window_cell}
use Rattle.cart.specs.Reads.{silent, heard, read_by}
use Rattle.cart.specs.Writes.{stored, taker_of, leaves, leaves_ram, leaves_flash, assigned, leaves_readable}
use Rattle.cart.specs.Laws.Writes.{by_mapping, by_permissions, by_ram, by_flash, by_readable, by_assigned}
use Rattle.direct.specs.Direct.{read_reach, asks_more, write_reach, hears, is_done, keeps}

-- a read that asks nobody hears what the cartridge's read gets
pub read_direct : (j : Jlp) (a : Active) (at : Console) (ram : List ℕ) (n : ℕ) → Some n ≡ hears (read_reach j.on a at) ram → n ≡ heard (read_by j a ram at)
unfolding read_by
read_direct j a at ram n e =
    cases (j.on && in_window at)
    (λ w. cases (in_ram at) (λ r. one (e ∙ rw (w, r))) (λ r. let z : Some n ≡ None = e ∙ rw (w, r) in let y : ◌≡◌ {A = ℕ} 0 1 = cc in absurd (omega arith)))
    (λ w. cases (silent at) (λ s. one (e ∙ rw (w, s))) (λ s. one (e ∙ rw (w, s))))
  where
    one : Some n ≡ Some (heard (read_by j a ram at)) → n ≡ heard (read_by j a ram at)
    one p = cc

-- at any other address than those that ask more no register is written, no page asked for, and the accelerators are not turned on
module _ (at : Console) (m : asks_more at ≡ false) where
  no_half_page : eqb (at.0 / 0x20) 2 ≡ false
  unfolding asks_more
  no_half_page = or_false_left _ _ m

  no_page : eqb (at.0 % 0x1000) 0xFFF ≡ false
  unfolding asks_more
  no_page = or_false_left _ _ (or_false_right (eqb (at.0 / 0x20) 2) _ m)

  no_turn : eqb at.0 on_at ≡ false
  unfolding asks_more
  no_turn = or_false_right (eqb (at.0 % 0x1000) 0xFFF) _ (or_false_right (eqb (at.0 / 0x20) 2) _ m)

  pub no_register : register_at at ≡ None
  unfolding register_at
  no_register =
      let h : at.0 / 0x20 ≡ 2 → ⊥ = eqb-false _ _ no_half_page in
      rw (ne_eqb (at.0 / 0x10) 4 (λ e. h (omega arith)), ne_eqb (at.0 / 0x10) 5 (λ e. h (omega arith)))

  pub no_request : (v : ℕ) → asks at v ≡ None
  unfolding asks
  no_request v = rw no_page

  pub not_turned : (field v : ℕ) → turns_on field at v ≡ false
  not_turned field v =
      cases (turns_on field at v) (λ t. absurd (eqb-false _ _ no_turn ((turns_on_exactly field at v).0 t).0)) (λ t. t)

untaken : (j : Jlp) (at : Console) (v : ℕ) → j.on && in_window at ≡ false → asks_more at ≡ false → takes j at v ≡ false
unfolding takes
untaken j at v w m = rw (not_turned at m j.field v, w)

-- a write that is done is a store to the cell that the cartridge's taker names, and nothing else
module _ (j : Jlp) (a : Active) (flips : List ℕ) (at : Console) (v : ℕ) where
  in_window_lem : j.on && in_window at ≡ true → in_ram at ≡ true → taker_of j a flips at v ≡ Ram (window_cell at)
  in_window_lem w r =
      rw (on_takes j at v (and_left j.on (in_window at) w) (and_right j.on (in_window at) w), r)

  elsewhere : j.on && in_window at ≡ false → asks_more at ≡ false → taker_of j a flips at v ≡ Ram (cell_at a at)
  elsewhere w m = rw (untaken j at v w m, no_register at m, no_request at m v)

  -- what a store leaves
  stores : (c : Cell) → taker_of j a flips at v ≡ Ram c → (flash ram : List ℕ) (kept : ℕ)
      → (0 ≡ assigned j a flips at v) × (kept ≡ leaves_readable j a flips kept at v) × (a.mapping ≡ (leaves j a flips at v).mapping) × (a.permissions ≡ (leaves j a flips at v).permissions) × (stored c ram v ≡ leaves_ram j a flips flash ram at v) × (flash ≡ leaves_flash j a flips flash ram at v)
  stores c t flash ram kept = (
    by_assigned j a flips at v _ (Ram c) refl t 0 refl,
    by_readable j a flips at v _ (Ram c) refl t kept kept refl,
    by_mapping j a flips at v _ (Ram c) refl t a.mapping refl,
    by_permissions j a flips at v _ (Ram c) refl t a.permissions refl,
    by_ram j a flips at v _ (Ram c) refl t flash ram (stored c ram v) refl,
    by_flash j a flips at v _ (Ram c) refl t flash ram flash refl,
  )

  pub write_direct : (flash ram x : List ℕ) (kept : ℕ) (b : Bool) → b ≡ is_done (write_reach j.on a at) → b ≡ true → x ≡ keeps (write_reach j.on a at) ram v
      → (0 ≡ assigned j a flips at v) × (kept ≡ leaves_readable j a flips kept at v) × (a.mapping ≡ (leaves j a flips at v).mapping) × (a.permissions ≡ (leaves j a flips at v).permissions) × (x ≡ leaves_ram j a flips flash ram at v) × (flash ≡ leaves_flash j a flips flash ram at v)
  write_direct flash ram x kept b e d k =
      cases (j.on && in_window at)
      (λ w. cases (in_ram at)
      (λ r. let y : x ≡ stored (window_cell at) ram v = k ∙ rw (w, r) in rw y (stores (window_cell at) (in_window_lem w r) flash ram kept))
      (λ r. true_is_not_false d (e ∙ rw (w, r))))
      (λ w. cases (asks_more at) (λ m. true_is_not_false d (e ∙ rw (w, m)))
      (λ m. let y : x ≡ stored (cell_at a at) ram v = k ∙ rw (w, m) in rw y (stores (cell_at a at) (elsewhere w m) flash ram kept)))

-- it goes to no register of the accelerators
pub not_latched : (j : Jlp) (a : Active) (at : Console) (v : ℕ) (b : Bool) → b ≡ is_done (write_reach j.on a at) → b ≡ true → latches j at v ≡ false
unfolding latches
not_latched j a at v b e d =
    cases (j.on && in_window at)
    (λ w. cases (in_ram at) (λ r. rw r) (λ r. true_is_not_false d (e ∙ rw (w, r))))
    (λ w. cases (asks_more at) (λ m. true_is_not_false d (e ∙ rw (w, m)))
    (λ m. and_false (not (in_ram at)) (takes j at v) (untaken j at v w m)))

-- one that is not leaves the RAM
pub not_done : (on : Bool) (a : Active) (at : Console) (v : ℕ) (ram x : List ℕ) (b : Bool) → b ≡ is_done (write_reach on a at) → b ≡ false → x ≡ keeps (write_reach on a at) ram v → x ≡ ram
not_done on a at v ram x b e d k =
    cases (on && in_window at)
    (λ w. cases (in_ram at) (λ r. true_is_not_false (e ∙ rw (w, r)) d) (λ r. k ∙ rw (w, r)))
    (λ w. cases (asks_more at) (λ m. k ∙ rw (w, m)) (λ m. true_is_not_false (e ∙ rw (w, m)) d))

-- what a write leaves, and answers: by these accelerators, tables, number, flash and RAM, it answers n, and q, x, y, u, z and f are the number, the tables,
-- the accelerators' words, the RAM and the flash behind it
abbrev pub Left : Jlp → Active → List ℕ → Console → ℕ → ℕ → List ℕ → List ℕ → ℕ → ℕ → List ℕ → List ℕ → List ℕ → List ℕ → List ℕ → Type 0
Left j a flips at v kept flash ram n q x y u z f =
    (n ≡ assigned j a flips at v)
    × (q ≡ leaves_readable j a flips kept at v)
    × (x ≡ (leaves j a flips at v).mapping)
    × (y ≡ (leaves j a flips at v).permissions)
    × (u ≡ words_of (written_jlp j at v))
    × (z ≡ leaves_ram j a flips flash ram at v)
    × (f ≡ leaves_flash j a flips flash ram at v)

-- by what the short way has done, with tidy words
module _ (w : List ℕ) (a : Active) (flips : List ℕ) (at : Console) (v kept : ℕ) (flash ram k : List ℕ) (o b : Bool) (p : o ≡ (jlp_from w).on)
    (e : b ≡ is_done (write_reach o a at)) (s : k ≡ keeps (write_reach o a at) ram v) where
  done : b ≡ is_done (write_reach (jlp_from w).on a at)
  done = e ∙ ap (λ (x : Bool). is_done (write_reach x a at)) p

  kept_by : k ≡ keeps (write_reach (jlp_from w).on a at) ram v
  kept_by = s ∙ ap (λ (x : Bool). keeps (write_reach x a at) ram v) p

  pub stored_left : Tidy w → b ≡ true → Left (jlp_from w) a flips at v kept flash ram 0 kept a.mapping a.permissions w k flash
  stored_left h t =
      let d = write_direct (jlp_from w) a flips at v flash ram k kept b done t kept_by in
      let j : w ≡ words_of (written_jlp (jlp_from w) at v) = h ∙ ap words_of (sym (unlatched (jlp_from w) at v (not_latched (jlp_from w) a at v b done t))) in
      (d.0, d.1, d.2, d.3, j, d.4, d.5)

  -- and where it has done nothing, by the write from the RAM that it has left
  pub asked_left : (n q : ℕ) (x y u z f : List ℕ) → b ≡ false → Left (jlp_from w) a flips at v kept flash k n q x y u z f → Left (jlp_from w) a flips at v kept flash ram n q x y u z f
  asked_left n q x y u z f t =
      subst (λ (m : List ℕ). Left (jlp_from w) a flips at v kept flash m n q x y u z f) (not_done (jlp_from w).on a at v ram k b done t kept_by)
