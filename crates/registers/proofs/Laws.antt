-- One law for each return: what the code has tested and called, as the words that it leaves.
use Prim.Native.Nat.{ℕ, ◌-◌, ◌+◌, ◌*◌, ◌/◌, ◌<◌, ◌≤◌}
use mathlib.Core.Bool.{Bool, true, false}
use mathlib.Core.List.{List}
use mathlib.Core.Path.{◌≡◌, refl, sym, ap, ◌∙◌}
use native.Mathlib.Omega.{arith}
use lib.ListN.{get_or, set}
use borrow.Author.Tests.{ne_eqb}
use Rattle.std.specs.Int.{from_bool}
use Rattle.basics.specs.Laws.Tests.{cases, and_false, true_is_not_false}
use Rattle.places.specs.declared.Console.{Console}
use Rattle.flash.specs.declared.Saves.{Saves}
use Rattle.flash.specs.Registers.{remembered}
use Rattle.jlp.specs.declared.Jlp.{Jlp}
use Rattle.jlp.specs.declared.Results.{Results}
use Rattle.jlp.specs.Arith.{results}
use Rattle.jlp.specs.Window.{in_window, is_operand, on_at, off_at, operands_start}
use Rattle.jlp.specs.Laws.Window.{between_low, between_high}
use Rattle.jlp.specs.Accelerators.{operand_count, with_on, turns_on, turns_off, takes, function_of, operated, crc_after, with_crc_and_saves, written_on, written_jlp}
use Rattle.jlp.specs.Laws.Accelerators.{on_in_window, off_takes, on_takes}
use Rattle.registers.specs.Words.{one_if, words_of, jlp_from, operates, behind_operand}
use Rattle.registers.specs.Code.Tidy.{Tidy}
use Rattle.registers.specs.Laws.Words.{turned, noted, operand_at, laid_out, from_tidied, tidy_now, behind_operand_lem, behind_other}

-- a test as a word
pub word_of_test : (b : Bool) (x : ℕ) → x ≡ from_bool b → x ≡ one_if b
word_of_test true x e = e
word_of_test false x e = e

-- a write is not in the window, or comes while on, or while off
module _ (w : List ℕ) (at : Console) (v : ℕ) where
  pub takes_outside : (i : Bool) → i ≡ in_window at → i ≡ false → false ≡ takes (jlp_from w) at v
  unfolding takes
  takes_outside i e n =
      let out : in_window at ≡ false = sym e ∙ n in
      let off : turns_on (jlp_from w).field at v ≡ false =
      cases (turns_on (jlp_from w).field at v) (λ t. true_is_not_false (on_in_window (jlp_from w).field at v t) out) (λ t. t) in
      rw (off, out) (sym (and_false (jlp_from w).on false refl))

  pub takes_on : (i o : Bool) → i ≡ in_window at → i ≡ true → o ≡ (jlp_from w).on → o ≡ true → o ≡ takes (jlp_from w) at v
  takes_on i o e n f t = t ∙ sym (on_takes (jlp_from w) at v (sym f ∙ t) (sym e ∙ n))

  pub takes_off : (o : Bool) (k : ℕ) (r : Bool) → o ≡ (jlp_from w).on → o ≡ false → k ≡ (jlp_from w).field → r ≡ turns_on k at v → r ≡ takes (jlp_from w) at v
  takes_off o k r f t g h = h ∙ ap (λ (x : ℕ). turns_on x at v) g ∙ sym (off_takes (jlp_from w) at v (sym f ∙ t))

pub ruleset taken = (takes_outside, takes_on, takes_off)

-- an operand's number
pub operand_from : (at : Console) (b : Bool) → b ≡ is_operand at → b ≡ true → operands_start ≤ at.0
operand_from at b e t = between_low _ _ _ (sym e ∙ t)

pub operand_below : (at : Console) (b : Bool) → b ≡ is_operand at → b ≡ true → at.0 - operands_start < operand_count
operand_below at b e t = omega (arith, between_high _ _ _ (sym e ∙ t))

module _ (w : List ℕ) (t : Tidy w) where
  -- an operand that is stored, with its function's results
  pub operate_is : (k v : ℕ) (r : Results) → k < operand_count
      → r ≡ function_of (k / 2) (get_or (set w (2 + k) v) (2 + 2 * (k / 2)) 0) (get_or (set w (2 + k) v) (2 + (2 * (k / 2) + 1)) 0) (results (get_or w 14 0) (get_or w 15 0))
      → set (set (set w (2 + k) v) 14 r.first) 15 r.second ≡ words_of (operated (jlp_from w) k v)
  operate_is k v r h e =
      laid_out w t k v h r
      ∙ ap (λ (x : Results). words_of (record { field = (jlp_from w).field; on = (jlp_from w).on; operands = set (jlp_from w).operands k v; results = x; crc = (jlp_from w).crc; saves = (jlp_from w).saves }))
      (e
      ∙ ap (λ (a : ℕ). function_of (k / 2) a (get_or (set w (2 + k) v) (2 + (2 * (k / 2) + 1)) 0) (results (get_or w 14 0) (get_or w 15 0))) (operand_at w t k v h (2 * (k / 2)) (omega arith))
      ∙ ap (λ (b : ℕ). function_of (k / 2) (get_or (set (jlp_from w).operands k v) (2 * (k / 2)) 0) b (results (get_or w 14 0) (get_or w 15 0))) (operand_at w t k v h (2 * (k / 2) + 1) (omega arith)))

  module _ (at : Console) (v : ℕ) where
    pub remember_is : (c : ℕ) (s₀ s : Saves) → s₀ ≡ (jlp_from w).saves → s ≡ remembered s₀ at v → c ≡ crc_after (get_or w 16 0) at v
        → set (set (set (set w 16 c) 17 s.sectors) 18 s.addr) 19 s.row ≡ words_of (with_crc_and_saves (jlp_from w) (crc_after (jlp_from w).crc at v) (remembered (jlp_from w).saves at v))
    remember_is c s₀ s e f g =
        noted w t c s
        ∙ ap (λ (x : ℕ). words_of (with_crc_and_saves (jlp_from w) x s)) g
        ∙ ap (λ (x : Saves). words_of (with_crc_and_saves (jlp_from w) (crc_after (jlp_from w).crc at v) x)) (f ∙ ap (λ (x : Saves). remembered x at v) e)

    -- while on: the word that turns off, an operand, and any other write
    pub on_off : (b : Bool) → b ≡ turns_off at v → b ≡ true → set w 1 0 ≡ words_of (written_on (jlp_from w) at v)
    unfolding written_on
    on_off b e h = rw (← e, h) (turned w t false)

    pub on_operand : (b c : Bool) (x : List ℕ) → b ≡ turns_off at v → b ≡ false → c ≡ is_operand at → c ≡ true
        → x ≡ words_of (operated (jlp_from w) (at.0 - operands_start) v) → x ≡ words_of (written_on (jlp_from w) at v)
    unfolding written_on
    on_operand b c x e h g k f = rw (← e, h, ← g, k) f

    pub on_other : (b c : Bool) (x : List ℕ) → b ≡ turns_off at v → b ≡ false → c ≡ is_operand at → c ≡ false
        → x ≡ words_of (with_crc_and_saves (jlp_from w) (crc_after (jlp_from w).crc at v) (remembered (jlp_from w).saves at v)) → x ≡ words_of (written_on (jlp_from w) at v)
    unfolding written_on
    on_other b c x e h g k f = rw (← e, h, ← g, k) f

-- the word that turns on, and any other write while off and while on
module _ (j : Jlp) (at : Console) (v : ℕ) where
  by_turning : turns_on j.field at v ≡ true → written_jlp j at v ≡ with_on j true
  unfolding written_jlp
  by_turning e = rw e

  by_off : turns_on j.field at v ≡ false → j.on ≡ false → written_jlp j at v ≡ j
  unfolding written_jlp
  by_off e o = rw (e, o)

  by_on : turns_on j.field at v ≡ false → j.on ≡ true → written_jlp j at v ≡ written_on j at v
  unfolding written_jlp
  by_on e o = rw (e, o)

module _ (w₀ w : List ℕ) (e : w ≡ words_of (jlp_from w₀)) (at : Console) (v f : ℕ) (b : Bool) (g : f ≡ (jlp_from w).field) (h : b ≡ turns_on f at v) where
  turns : b ≡ turns_on (jlp_from w).field at v
  turns = h ∙ ap (λ (x : ℕ). turns_on x at v) g

  tidied_too : (x : List ℕ) → x ≡ words_of (written_jlp (jlp_from w) at v) → x ≡ words_of (written_jlp (jlp_from w₀) at v)
  tidied_too x p = p ∙ ap (λ (j : Jlp). words_of (written_jlp j at v)) (from_tidied w₀ w e)

  pub write_turns : b ≡ true → set w 1 1 ≡ words_of (written_jlp (jlp_from w₀) at v)
  write_turns t = tidied_too _ (turned w (tidy_now w₀ w e) true ∙ ap words_of (sym (by_turning (jlp_from w) at v (sym turns ∙ t))))

  module _ (o : Bool) (k : o ≡ (jlp_from w).on) (t : b ≡ false) where
    pub write_off : o ≡ false → w ≡ words_of (written_jlp (jlp_from w₀) at v)
    write_off n = tidied_too _ (tidy_now w₀ w e ∙ ap words_of (sym (by_off (jlp_from w) at v (sym turns ∙ t) (sym k ∙ n))))

    pub write_on : (x : List ℕ) → o ≡ true → x ≡ words_of (written_on (jlp_from w) at v) → x ≡ words_of (written_jlp (jlp_from w₀) at v)
    write_on x n p = tidied_too x (p ∙ ap words_of (sym (by_on (jlp_from w) at v (sym turns ∙ t) (sym k ∙ n))))

-- an operand's address is none of the words that turn on and off
module _ (at : Console) (h : is_operand at ≡ true) where
  operand_turns : (field v : ℕ) → turns_on field at v ≡ false
  unfolding turns_on
  operand_turns field v = rw (ne_eqb at.0 on_at (λ e. omega (arith, between_low _ _ _ h)))

  operand_keeps : (v : ℕ) → turns_off at v ≡ false
  unfolding turns_off
  operand_keeps v = rw (ne_eqb at.0 off_at (λ e. omega (arith, between_low _ _ _ h)))

  operand_written : (j : Jlp) (v : ℕ) → j.on ≡ true → written_jlp j at v ≡ operated j (at.0 - operands_start) v
  unfolding written_on
  operand_written j v o = by_on j at v (operand_turns j.field v) o ∙ rw (operand_keeps v, h)

-- off, no operand, and one that computes
module _ (w : List ℕ) (at : Console) (v : ℕ) where
  stays : operates (jlp_from w) at ≡ false → (false ≡ operates (jlp_from w) at) × (w ≡ behind_operand w at v)
  stays e = (sym e, sym (behind_other w at v e))

  module _ (o : Bool) (k : o ≡ (jlp_from w).on) where
    pub operates_off : o ≡ false → (false ≡ operates (jlp_from w) at) × (w ≡ behind_operand w at v)
    unfolding operates
    operates_off n = stays (rw (← k, n))

    module _ (n : o ≡ true) (b : Bool) (g : b ≡ is_operand at) where
      pub operates_not : b ≡ false → (false ≡ operates (jlp_from w) at) × (w ≡ behind_operand w at v)
      unfolding operates
      operates_not m = stays (rw (← k, n, ← g, m))

      pub operates_so : b ≡ true → (x y : List ℕ) → x ≡ words_of (jlp_from w) → y ≡ words_of (operated (jlp_from x) (at.0 - operands_start) v)
          → (true ≡ operates (jlp_from w) at) × (y ≡ behind_operand w at v)
      unfolding operates
      operates_so m x y e f =
          let i : is_operand at ≡ true = sym g ∙ m in
          let h : operates (jlp_from w) at ≡ true = rw (← k, n, i) in
          let l : y ≡ words_of (written_jlp (jlp_from w) at v) =
          f ∙ ap words_of (ap (λ (j : Jlp). operated j (at.0 - operands_start) v) (from_tidied w x e) ∙ sym (operand_written at i (jlp_from w) v (sym k ∙ n))) in
          (sym h, l ∙ sym (behind_operand_lem w at v h))
