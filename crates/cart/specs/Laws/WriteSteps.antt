-- Laws of writes, step by step: a cell, a register and a request as they are decided one after the other, and the taker that they make.
use Rattle.std.specs.Prelude.{◌≡◌, ℕ, ◌%◌, ◌<◌, ◌≤◌, Bool, true, false, not, List, slice_index, slice_set, refl, Option, Some, None}
use Rattle.std.proofs.Common.{sym, ◌∙◌, arith}
use Rattle.std.proofs.Math.Path.{ap}
use borrow.Author.Tests.{lt-ltb, le-ltb, not-false}
use Rattle.basics.specs.Laws.Tests.{cases}
use Rattle.places.specs.declared.Console.{Console}
use Rattle.places.specs.Limits.{lent}
use Rattle.switches.specs.Flips.{Active, asks, acts}
use Rattle.switches.specs.Banks.{register_at, banked}
use Rattle.jlp.specs.declared.Jlp.{Jlp}
use Rattle.jlp.specs.Window.{in_ram}
use Rattle.jlp.specs.Accelerators.{takes}
use Rattle.cart.specs.declared.Cell.{Cell}
use Rattle.cart.specs.declared.Taker.{Taker}
use Rattle.cart.specs.declared.Taker.TheVariants.{Accelerators, Bank, Flip, Ram}
use Rattle.cart.specs.Cells.{cell_at, window_cell}
use Rattle.cart.specs.Code.Takers.{banked_only, acting_only}
use Rattle.cart.specs.Laws.Writes.{store_shut}
use Rattle.cart.specs.Writes.{stored_word, stored, window_taker, bank_taker, flip_taker, mapped_taker, taker_of, left_by, assigned_by, readable_by}

-- past the n words that are lent; open, to the word w
module _ (c : Cell) (ram : List ℕ) (v : ℕ) where
  module _ (n : ℕ) (h : n ≡ lent ram) (r : not c.rights.write ≡ false) where
    pub store_past : n ≤ c.location.0 → ram ≡ stored c ram v
    unfolding stored
    store_past l = rw (not-false c.rights.write r, ← h, le-ltb _ _ l)

    pub store_open : (w : ℕ) → c.location.0 < n → w ≡ stored_word c.rights.narrow (slice_index ram c.location.0) v → slice_set ram c.location.0 w ≡ stored c ram v
    unfolding stored
    store_open w l e = rw (not-false c.rights.write r, ← h, lt-ltb _ _ l, e)

pub ruleset stores = (store_shut, store_past, store_open)

-- a register whose half-page may be switched, may not, and none
module _ (permissions : List ℕ) (r q : Option ℕ) (e : r ≡ q) where
  pub bank_may : (h : ℕ) (b : Bool) → r ≡ Some h → b ≡ banked permissions h → b ≡ true → Some h ≡ banked_only permissions q
  bank_may h b f g t = rw (← e, f, ← g, t)

  pub bank_not : (h : ℕ) (b : Bool) → r ≡ Some h → b ≡ banked permissions h → b ≡ false → None ≡ banked_only permissions q
  bank_not h b f g t = rw (← e, f, ← g, t)

  pub bank_none : r ≡ None → None ≡ banked_only permissions q
  bank_none f = rw (← e, f)

pub ruleset banks = (bank_may, bank_not, bank_none)

-- a request whose entry acts, does not, and none
module _ (flips : List ℕ) (r q : Option ℕ) (e : r ≡ q) where
  pub flip_may : (n : ℕ) (b : Bool) → r ≡ Some n → b ≡ acts flips n → b ≡ true → Some n ≡ acting_only flips q
  flip_may n b f g t = rw (← e, f, ← g, t)

  pub flip_not : (n : ℕ) (b : Bool) → r ≡ Some n → b ≡ acts flips n → b ≡ false → None ≡ acting_only flips q
  flip_not n b f g t = rw (← e, f, ← g, t)

  pub flip_none : r ≡ None → None ≡ acting_only flips q
  flip_none f = rw (← e, f)

pub ruleset flips_asked = (flip_may, flip_not, flip_none)

-- so the taker
flip_by : (flips : List ℕ) (r : Option ℕ) (next : Taker) (q : Option ℕ) → q ≡ acting_only flips r → (n : ℕ) → q ≡ Some n → Flip n ≡ flip_taker flips r next
flip_by flips (Some m) next q e n f =
    cases (acts flips m) (λ b. let g : Some n ≡ Some m = sym f ∙ e ∙ rw b in rw b cc) (λ b. let g : Some n ≡ None = sym f ∙ e ∙ rw b in let z : ◌≡◌ {A = ℕ} 0 1 = cc in absurd (omega arith))
flip_by flips None next q e n f = let g : Some n ≡ None = sym f ∙ e in let z : ◌≡◌ {A = ℕ} 0 1 = cc in absurd (omega arith)

flip_past : (flips : List ℕ) (r : Option ℕ) (next : Taker) (q : Option ℕ) → q ≡ acting_only flips r → q ≡ None → next ≡ flip_taker flips r next
flip_past flips (Some m) next q e f =
    cases (acts flips m) (λ b. let g : None ≡ Some m = sym f ∙ e ∙ rw b in let z : ◌≡◌ {A = ℕ} 0 1 = cc in absurd (omega arith)) (λ b. rw b)
flip_past flips None next q e f = refl

bank_by : (permissions : List ℕ) (r : Option ℕ) (v : ℕ) (next : Taker) (q : Option ℕ) → q ≡ banked_only permissions r → (h : ℕ) → q ≡ Some h → Bank h (v % 256) ≡ bank_taker permissions r v next
bank_by permissions (Some m) v next q e h f =
    cases (banked permissions m) (λ b. let g : Some h ≡ Some m = sym f ∙ e ∙ rw b in rw b cc) (λ b. let g : Some h ≡ None = sym f ∙ e ∙ rw b in let z : ◌≡◌ {A = ℕ} 0 1 = cc in absurd (omega arith))
bank_by permissions None v next q e h f = let g : Some h ≡ None = sym f ∙ e in let z : ◌≡◌ {A = ℕ} 0 1 = cc in absurd (omega arith)

bank_past : (permissions : List ℕ) (r : Option ℕ) (v : ℕ) (next : Taker) (q : Option ℕ) → q ≡ banked_only permissions r → q ≡ None → next ≡ bank_taker permissions r v next
bank_past permissions (Some m) v next q e f =
    cases (banked permissions m) (λ b. let g : None ≡ Some m = sym f ∙ e ∙ rw b in let z : ◌≡◌ {A = ℕ} 0 1 = cc in absurd (omega arith)) (λ b. rw b)
bank_past permissions None v next q e f = refl

module _ (a : Active) (flips : List ℕ) (at : Console) (v : ℕ) where
  module _ (q : Option ℕ) (e : q ≡ acting_only flips (asks at v)) where
    pub flip_takes : (n : ℕ) → q ≡ Some n → Flip n ≡ flip_taker flips (asks at v) (Ram (cell_at a at))
    flip_takes n f = flip_by flips (asks at v) (Ram (cell_at a at)) q e n f

    pub flip_passes : (c : Cell) → q ≡ None → c ≡ cell_at a at → Ram c ≡ flip_taker flips (asks at v) (Ram (cell_at a at))
    flip_passes c f g = ap (λ (d : Cell). Ram d) g ∙ flip_past flips (asks at v) (Ram (cell_at a at)) q e f

  module _ (q : Option ℕ) (e : q ≡ banked_only a.permissions (register_at at)) where
    pub bank_takes : (h : ℕ) → q ≡ Some h → Bank h (v % 256) ≡ mapped_taker a flips at v
    bank_takes h f = bank_by a.permissions (register_at at) v _ q e h f

    pub bank_passes : (t : Taker) → q ≡ None → t ≡ flip_taker flips (asks at v) (Ram (cell_at a at)) → t ≡ mapped_taker a flips at v
    bank_passes t f g = g ∙ bank_past a.permissions (register_at at) v _ q e f

pub ruleset takers = (flip_takes, flip_passes, bank_takes, bank_passes)

-- in the window, the RAM and the registers
module _ (at : Console) (b : Bool) (e : b ≡ in_ram at) where
  pub window_ram : (c : Cell) → b ≡ true → c ≡ window_cell at → Ram c ≡ window_taker at
  window_ram c t h = rw (← e, t, h)

  pub window_registers : b ≡ false → Accelerators ≡ window_taker at
  window_registers t = rw (← e, t)

-- a write that the accelerators take, and one that they pass on
module _ (j : Jlp) (a : Active) (flips : List ℕ) (at : Console) (v : ℕ) (b : Bool) (e : b ≡ takes j at v) where
  pub jlp_takes : (t : Taker) → b ≡ true → t ≡ window_taker at → t ≡ taker_of j a flips at v
  jlp_takes t f g = rw (← e, f, g)

  pub jlp_passes : (t : Taker) → b ≡ false → t ≡ mapped_taker a flips at v → t ≡ taker_of j a flips at v
  jlp_passes t f g = rw (← e, f) g

-- what a taker leaves and answers, by the case w that the code has found it to be
module _ (t w : Taker) (e : t ≡ w) where
  pub shift_assigned : (x : ℕ) → x ≡ assigned_by w → x ≡ assigned_by t
  shift_assigned x g = rw e g

  pub shift_readable : (a : Active) (flips : List ℕ) (kept x : ℕ) → x ≡ readable_by w a flips kept → x ≡ readable_by t a flips kept
  shift_readable a flips kept x g = rw e g

  pub shift_mapping : (a : Active) (flips x : List ℕ) → x ≡ (left_by w a flips).mapping → x ≡ (left_by t a flips).mapping
  shift_mapping a flips x g = rw e g

  pub shift_permissions : (a : Active) (flips x : List ℕ) → x ≡ (left_by w a flips).permissions → x ≡ (left_by t a flips).permissions
  shift_permissions a flips x g = rw e g

pub ruleset shifts = (shift_assigned, shift_readable, shift_mapping, shift_permissions)
