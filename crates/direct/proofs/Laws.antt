-- One law for each return: what the code has tested and called, as the definition that it answers.
use Rattle.std.specs.Prelude.{None}
use Prim.Native.Nat.{ℕ, ◌≤◌}
use native.Mathlib.Omega.{arith}
use mathlib.Core.List.{List}
use mathlib.Core.Path.{◌≡◌, refl, sym, ap, subst, ◌∙◌}
use mathlib.Core.Bool.{Bool, true, false, not, ◌&&◌}
use Rattle.basics.specs.Laws.Tests.{cases, and_left, and_right, not-true}
use Rattle.places.specs.declared.Console.{Console}
use Rattle.switches.specs.Flips.{Active}
use Rattle.flash.specs.Flash.{Memories, memories, acted}
use Rattle.flash.specs.Laws.Registers.{others_ask_nothing}
use Rattle.flash.specs.Registers.{command_of}
use Rattle.jlp.specs.declared.Jlp.{Jlp}
use Rattle.jlp.specs.Window.{in_ram, is_operand, operands_start, operands_end, window_start, window_end}
use Rattle.jlp.specs.Laws.Window.{between_low, between_high, between_in}
use Rattle.jlp.specs.Accelerators.{takes, latches, written_jlp}
use Rattle.jlp.specs.Laws.Accelerators.{on_takes, unlatched}
use Rattle.registers.specs.Words.{words_of, jlp_from, operates, behind_operand}
use Rattle.registers.specs.Laws.Words.{behind_operand_lem, behind_other}
use Rattle.cart.specs.declared.Taker.TheVariants.{Accelerators}
use Rattle.cart.specs.Writes.{taker_of, memories_by, leaves, leaves_ram, leaves_flash, assigned, leaves_readable}
use Rattle.cart.specs.Laws.Writes.{by_mapping, by_permissions, by_ram, by_flash, by_readable, by_assigned}
use Rattle.direct.proofs.Theorems.Direct.{Left}

-- a write to a register, and any other
module _ (j : Jlp) (a : Active) (flips : List ℕ) (at : Console) (v kept : ℕ) (flash ram : List ℕ) (b : Bool) (e : b ≡ latches j at v) where
  register_takes : b ≡ true → taker_of j a flips at v ≡ Accelerators
  unfolding latches
  register_takes t =
      let h : not (in_ram at) && takes j at v ≡ true = sym e ∙ t in
      rw (and_right (not (in_ram at)) (takes j at v) h, not-true (in_ram at) (and_left (not (in_ram at)) (takes j at v) h))

  pub by_register : (u z f : List ℕ) → b ≡ true
      → (u ≡ words_of (written_jlp j at v)) × (z ≡ (acted j.saves.sectors (memories flash ram) (command_of j.saves at v)).ram) × (f ≡ (acted j.saves.sectors (memories flash ram) (command_of j.saves at v)).flash)
      → Left j a flips at v kept flash ram 0 kept a.mapping a.permissions u z f
  by_register u z f t l =
      let r : taker_of j a flips at v ≡ Accelerators = register_takes t in (
        by_assigned j a flips at v _ Accelerators refl r 0 refl,
        by_readable j a flips at v _ Accelerators refl r kept kept refl,
        by_mapping j a flips at v _ Accelerators refl r a.mapping refl,
        by_permissions j a flips at v _ Accelerators refl r a.permissions refl,
        l.0,
        by_ram j a flips at v _ Accelerators refl r flash ram z l.1,
        by_flash j a flips at v _ Accelerators refl r flash ram f l.2,
      )

  pub by_switch : (n q : ℕ) (x y u z f : List ℕ) → b ≡ false
      → (n ≡ assigned j a flips at v)
      × (q ≡ leaves_readable j a flips kept at v)
      × (x ≡ (leaves j a flips at v).mapping)
      × (y ≡ (leaves j a flips at v).permissions)
      × (u ≡ words_of j)
      × (z ≡ leaves_ram j a flips flash ram at v)
      × (f ≡ leaves_flash j a flips flash ram at v)
      → Left j a flips at v kept flash ram n q x y u z f
  by_switch n q x y u z f t l = (l.0, l.1, l.2, l.3, l.4 ∙ ap words_of (sym (unlatched j at v (sym e ∙ t))), l.5, l.6)

-- before both, the write of an operand: nobody but the accelerators changes
module _ (w : List ℕ) (a : Active) (flips : List ℕ) (at : Console) (v kept : ℕ) (flash ram : List ℕ) (b : Bool) (u : List ℕ) (e : (b ≡ operates (jlp_from w) at) × (u ≡ behind_operand w at v)) where
  module _ (t : b ≡ true) where
    done : operates (jlp_from w) at ≡ true
    done = sym e.0 ∙ t

    on_so : (jlp_from w).on ≡ true
    unfolding operates
    on_so = and_left (jlp_from w).on (is_operand at) done

    operand_so : is_operand at ≡ true
    unfolding operates
    operand_so = and_right (jlp_from w).on (is_operand at) done

    low : operands_start ≤ at.0
    low = between_low _ _ _ operand_so

    high : at.0 ≤ operands_end
    high = between_high _ _ _ operand_so

    no_ram : in_ram at ≡ false
    no_ram = cases (in_ram at) (λ r. absurd (omega (arith, low, between_high _ _ _ r))) (λ r. r)

    taken : taker_of (jlp_from w) a flips at v ≡ Accelerators
    taken = rw (on_takes (jlp_from w) at v on_so (between_in window_start window_end at.0 (omega (arith, low)) (omega (arith, high))), no_ram)

    nothing : command_of (jlp_from w).saves at v ≡ None
    nothing = others_ask_nothing (jlp_from w).saves at v (λ q. omega (arith, low)) (λ q. omega (arith, low)) (λ q. omega (arith, low))

    left_so : memories_by Accelerators (jlp_from w).saves (memories flash ram) at v ≡ memories flash ram
    left_so = ap (acted (jlp_from w).saves.sectors (memories flash ram)) nothing

    pub by_operand : Left (jlp_from w) a flips at v kept flash ram 0 kept a.mapping a.permissions u ram flash
    by_operand = (
      by_assigned (jlp_from w) a flips at v _ Accelerators refl taken 0 refl,
      by_readable (jlp_from w) a flips at v _ Accelerators refl taken kept kept refl,
      by_mapping (jlp_from w) a flips at v _ Accelerators refl taken a.mapping refl,
      by_permissions (jlp_from w) a flips at v _ Accelerators refl taken a.permissions refl,
      e.1 ∙ behind_operand_lem w at v done,
      by_ram (jlp_from w) a flips at v _ Accelerators refl taken flash ram ram (ap (λ (m : Memories). m.ram) (sym left_so)),
      by_flash (jlp_from w) a flips at v _ Accelerators refl taken flash ram flash (ap (λ (m : Memories). m.flash) (sym left_so)),
    )

  -- any other leaves the words to the next
  pub passed_on : b ≡ false → (n q : ℕ) (x y r z f : List ℕ) → Left (jlp_from u) a flips at v kept flash ram n q x y r z f → Left (jlp_from w) a flips at v kept flash ram n q x y r z f
  passed_on t n q x y r z f =
      let k : operates (jlp_from w) at ≡ false = sym e.0 ∙ t in
      let s : u ≡ w = e.1 ∙ behind_other w at v k in
      subst (λ (l : List ℕ). Left (jlp_from l) a flips at v kept flash ram n q x y r z f) s
