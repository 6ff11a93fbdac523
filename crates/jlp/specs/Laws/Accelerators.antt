-- Laws of the accelerators: which writes they take, which of those change them, and what stays (02, W-206 and W-209).
use Rattle.std.specs.Prelude.{Option, ℕ, ◌≤◌, Bool, ◌&&◌, ◌↔◌, ◌≡◌, eqb, None}
use Rattle.std.proofs.Math.Bool.{true, false, cond, not}
use Rattle.std.proofs.Math.Path.{refl}
use Rattle.std.proofs.Common.{sym, ap, ◌∙◌, arith}
use borrow.Author.Tests.{eq-eqb, ne_eqb, eqb-true, eqb-false}
use Rattle.basics.specs.Laws.Tests.{cases, and_left, and_right, and_true, and_false, or_none, or_right, or_false_left, or_false_right, not-true, cond_true, true_is_not_false}
use Rattle.places.specs.declared.Console.{Console}
use Rattle.places.specs.Places.{console}
use Rattle.flash.specs.Flash.{ram_start, ram_end}
use Rattle.flash.specs.Registers.{jf_first, jf_last, jf_addr, jf_row}
use Rattle.flash.specs.Laws.Registers.{others_silent, registers_stay}
use Rattle.jlp.specs.declared.Jlp.{Jlp}
use Rattle.jlp.specs.Window.{in_window, in_ram, is_operand, on_at, on_word, off_at, off_word, operands_start, operands_end, window_start, window_end, first_at, second_at, data_at, crc_at}
use Rattle.jlp.specs.Accelerators.{with_on, reset_jlp, turns_on, turns_off, takes, latches, crc_after, written_on, written_jlp, register_word, heard_at}
use Rattle.jlp.specs.Laws.Window.{between_low, between_high, between_in, between_out, between_below}

-- the word that turns on, exactly: $4A5A to $8033, for a field that is not 0
pub turns_on_exactly : (field : ℕ) (at : Console) (v : ℕ) → (turns_on field at v ≡ true) ↔ ((at.0 ≡ on_at) × ((v ≡ on_word) × (field ≡ 0 → ⊥)))
unfolding turns_on
turns_on_exactly field at v = (there, back)
  where
    there : eqb at.0 on_at && (eqb v on_word && not (eqb field 0)) ≡ true → (at.0 ≡ on_at) × ((v ≡ on_word) × (field ≡ 0 → ⊥))
    there e =
        let r : eqb v on_word && not (eqb field 0) ≡ true = and_right (eqb at.0 on_at) (eqb v on_word && not (eqb field 0)) e in (
          eqb-true _ _ (and_left (eqb at.0 on_at) (eqb v on_word && not (eqb field 0)) e),
          (
            eqb-true _ _ (and_left (eqb v on_word) (not (eqb field 0)) r),
            eqb-false field 0 (not-true (eqb field 0) (and_right (eqb v on_word) (not (eqb field 0)) r)),
          ),
        )

    back : (at.0 ≡ on_at) × ((v ≡ on_word) × (field ≡ 0 → ⊥)) → eqb at.0 on_at && (eqb v on_word && not (eqb field 0)) ≡ true
    back h = rw (eq-eqb _ _ h.0, eq-eqb _ _ h.1.0, ne_eqb _ _ h.1.1)

pub on_in_window : (field : ℕ) (at : Console) (v : ℕ) → turns_on field at v ≡ true → in_window at ≡ true
on_in_window field at v e =
    let a : at.0 ≡ on_at = ((turns_on_exactly field at v).0 e).0 in
    between_in window_start window_end at.0 (omega arith) (omega arith)

-- while off, that word alone is taken; while on, all of the window
pub off_takes : (j : Jlp) (at : Console) (v : ℕ) → j.on ≡ false → takes j at v ≡ turns_on j.field at v
unfolding takes
off_takes j at v o = rw o (or_none (turns_on j.field at v))

pub on_takes : (j : Jlp) (at : Console) (v : ℕ) → j.on ≡ true → in_window at ≡ true → takes j at v ≡ true
unfolding takes
on_takes j at v o h = or_right (turns_on j.field at v) (j.on && in_window at) (and_true j.on (in_window at) o h)

-- outside of the window nothing is
pub outside_takes : (j : Jlp) (at : Console) (v : ℕ) → in_window at ≡ false → takes j at v ≡ false
unfolding takes
outside_takes j at v out =
    cases (turns_on j.field at v) (λ t. true_is_not_false (on_in_window j.field at v t) out)
    (λ t. rw t (and_false j.on (in_window at) out))

-- a write to none of their registers changes nothing, nor does one that they do not take
module _ (j : Jlp) (at : Console) (v : ℕ) where
  quiet : (at.0 ≡ off_at → ⊥) → is_operand at ≡ false → (at.0 ≡ data_at → ⊥) → (at.0 ≡ crc_at → ⊥) → (at.0 ≡ jf_addr → ⊥) → (at.0 ≡ jf_row → ⊥)
      → written_on j at v ≡ j
  unfolding written_on turns_off crc_after
  quiet a b c d e f = rw (ne_eqb _ _ a, b, ne_eqb _ _ c, ne_eqb _ _ d, registers_stay j.saves at v e f)

  outside : in_window at ≡ false → written_on j at v ≡ j
  outside out =
      quiet (λ e. here (omega arith) (omega arith))
      (cases (is_operand at) (λ t. absurd (here (omega (arith, between_low _ _ _ t)) (omega (arith, between_high _ _ _ t)))) (λ t. t))
      (λ e. here (omega arith) (omega arith))
      (λ e. here (omega arith) (omega arith))
      (λ e. here (omega arith) (omega arith))
      (λ e. here (omega arith) (omega arith))
    where
      here : window_start ≤ at.0 → at.0 ≤ window_end → ⊥
      here = between_out window_start window_end at.0 out

  pub not_taken : takes j at v ≡ false → written_jlp j at v ≡ j
  unfolding takes written_jlp
  not_taken e =
      let off : turns_on j.field at v ≡ false = or_false_left (turns_on j.field at v) (j.on && in_window at) e in
      let out : j.on && in_window at ≡ false = or_false_right (turns_on j.field at v) (j.on && in_window at) e in
      rw off (by j.on out)
    where
      by : (b : Bool) → b && in_window at ≡ false → cond b (written_on j at v) j ≡ j
      by true f = outside f
      by false f = refl

  -- so a write that changes something is one that they take
  pub changed_taken : (written_jlp j at v ≡ j → ⊥) → takes j at v ≡ true
  changed_taken h = cases (takes j at v) (λ t. t) (λ t. absurd (h (not_taken t)))

  -- and no write to a word of the RAM changes anything
  pub ram_quiet : in_ram at ≡ true → written_jlp j at v ≡ j
  unfolding written_jlp
  ram_quiet e = rw still (by j.on)
    where
      low : ram_start ≤ at.0
      low = between_low _ _ _ e

      high : at.0 ≤ ram_end
      high = between_high _ _ _ e

      still : turns_on j.field at v ≡ false
      still = cases (turns_on j.field at v) (λ t. absurd (omega (arith, low, ((turns_on_exactly j.field at v).0 t).0))) (λ t. t)

      by : (b : Bool) → cond b (written_on j at v) j ≡ j
      by true =
          quiet (λ q. omega (arith, low)) (between_below operands_start operands_end at.0 (omega (arith, high))) (λ q. omega (arith, high))
          (λ q. omega (arith, high))
          (λ q. omega (arith, low))
          (λ q. omega (arith, low))
      by false = refl

  -- so one that does not go to a register changes nothing
  pub unlatched : latches j at v ≡ false → written_jlp j at v ≡ j
  unfolding latches
  unlatched e = cases (in_ram at) (λ t. ram_quiet t) (λ t. not_taken (rw t at e))

-- field 0 knows neither word: never on, they take no write, and no write changes them
module _ (j : Jlp) (none : j.field ≡ 0) (off : j.on ≡ false) where
  pub none_taken : (at : Console) (v : ℕ) → takes j at v ≡ false
  unfolding turns_on
  none_taken at v =
      off_takes j at v off
      ∙ and_false (eqb at.0 on_at) (eqb v on_word && not (eqb j.field 0))
      (and_false (eqb v on_word) (not (eqb j.field 0)) (rw (eq-eqb _ _ none)))

  pub none_written : (at : Console) (v : ℕ) → written_jlp j at v ≡ j
  none_written at v = not_taken j at v (none_taken at v)

-- k has the field, the operands, the results, the CRC and the flash's registers of j
pub record Kept (j k : Jlp) : Type 0 where
  pub field : k.field ≡ j.field
  pub operands : k.operands ≡ j.operands
  pub results : k.results ≡ j.results
  pub crc : k.crc ≡ j.crc
  pub saves : k.saves ≡ j.saves

-- reset keeps them, and so does turning off and on again
pub reset_keeps : (j : Jlp) → Kept j (reset_jlp j)
reset_keeps j = record { field = refl; operands = refl; results = refl; crc = refl; saves = refl }

pub off_then_on : (j : Jlp) → (j.field ≡ 0 → ⊥) → j.on ≡ true → written_jlp (written_jlp j (console off_at) off_word) (console on_at) on_word ≡ j
unfolding written_jlp written_on turns_on turns_off
off_then_on j some on = ap after first ∙ rw (ne_eqb _ _ some) (ap (with_on j) (sym on))
  where
    after : Jlp → Jlp
    after k = written_jlp k (console on_at) on_word

    first : written_jlp j (console off_at) off_word ≡ with_on j false
    first = cond_true j.on (with_on j false) j on

-- reads are silent while off, and but for three registers and the flash's two
module _ (j : Jlp) (at : Console) where
  pub off_silent : j.on ≡ false → heard_at j at ≡ None
  unfolding heard_at
  off_silent off = rw off

  pub other_silent : (at.0 ≡ first_at → ⊥) → (at.0 ≡ second_at → ⊥) → (at.0 ≡ crc_at → ⊥) → (at.0 ≡ jf_first → ⊥) → (at.0 ≡ jf_last → ⊥)
      → heard_at j at ≡ None
  unfolding heard_at register_word
  other_silent a b c d e = rw (ne_eqb _ _ a, ne_eqb _ _ b, ne_eqb _ _ c, others_silent j.saves at d e) (by j.on)
    where
      by : (b : Bool) → ◌≡◌ {A = Option ℕ} (cond b None None) None
      by true = refl
      by false = refl
