-- The flash over the cartridge (02, W-209): an access leaves of it what the command leaves that it asks for while the accelerators are on, so no
-- other access changes it; and any list of accesses answers as it would over a plain list of rows, with the same rows behind it.
use Rattle.std.specs.Prelude.{◌≡◌, ℕ, ◌≤◌, Bool, true, false, cond, List, [], ◌∷◌, ◌++◌, Option, None}
use Rattle.std.proofs.Math.Path.{refl}
use Rattle.std.proofs.Common.{sym, ap, ◌∙◌, arith}
use Rattle.basics.specs.Laws.Tests.{cases, true_is_not_false}
use Rattle.places.specs.declared.Console.{Console}
use Rattle.switches.specs.Flips.{Active}
use Rattle.flash.specs.declared.Command.{Command}
use Rattle.flash.specs.declared.Saves.{Saves}
use Rattle.flash.specs.Flash.{Memories, memories, acted, ram_start}
use Rattle.flash.specs.Registers.{command_of}
use Rattle.flash.specs.Plain.{PlainFlash}
use Rattle.flash.specs.Shown.{shown_flash}
use Rattle.flash.specs.Laws.Registers.{others_ask_nothing, size_stays}
use Rattle.flash.specs.Laws.Alike.{alike}
use Rattle.jlp.specs.declared.Jlp.{Jlp}
use Rattle.jlp.specs.Window.{in_window, in_ram, is_operand, window_start, window_end, on_at}
use Rattle.jlp.specs.Accelerators.{turns_on, turns_off, takes, written_on, written_jlp}
use Rattle.jlp.specs.Laws.Window.{between_low, between_out}
use Rattle.jlp.specs.Laws.Accelerators.{off_takes, on_takes, turns_on_exactly}
use Rattle.cart.specs.declared.Cartridge.{Cartridge}
use Rattle.cart.specs.declared.Taker.{Taker}
use Rattle.cart.specs.declared.Taker.TheVariants.{Accelerators, Bank, Flip, Ram}
use Rattle.cart.specs.Cells.{window_cell}
use Rattle.cart.specs.Writes.{window_taker, mapped_taker, taker_of, memories_by, leaves_ram, leaves_flash}
use Rattle.cart.specs.Cartridges.{active_of, write_of}
use Rattle.cart.specs.Run.{Access, Read, Write, Reset, World, step, said, after, answers}
use Rattle.cart.specs.PlainRun.{PlainWorld, plain_by, plain_step, plain_said, plain_after, plain_answers, shown_world, AsRows}
use Rattle.cart.proofs.Theorems.Jlp.{mapped_by_tables, tables_flash}

-- the command that an access asks for: a write, while the accelerators are on
abbrev pub command_by : World → Access → Option Command
command_by w (Read a) = None
command_by w (Write a v) = cond w.cartridge.jlp.on (command_of w.cartridge.jlp.saves a v) None
command_by w Reset = None

-- outside of the window and in the RAM no write asks for one, nor does the word that turns on
module _ (s : Saves) (at : Console) (v : ℕ) where
  outside_asks_nothing : in_window at ≡ false → command_of s at v ≡ None
  outside_asks_nothing out =
      others_ask_nothing s at v (λ q. here (omega arith) (omega arith)) (λ q. here (omega arith) (omega arith)) (λ q. here (omega arith) (omega arith))
    where
      here : window_start ≤ at.0 → at.0 ≤ window_end → ⊥
      here = between_out window_start window_end at.0 out

  ram_asks_nothing : in_ram at ≡ true → command_of s at v ≡ None
  ram_asks_nothing e =
      let low : ram_start ≤ at.0 = between_low _ _ _ e in
      others_ask_nothing s at v (λ q. omega arith) (λ q. omega arith) (λ q. omega arith)

  on_asks_nothing : at.0 ≡ on_at → command_of s at v ≡ None
  on_asks_nothing e = others_ask_nothing s at v (λ q. omega arith) (λ q. omega arith) (λ q. omega arith)

-- what a write leaves of the flash, by its taker, is what its command leaves
module _ (j : Jlp) (m : Memories) (at : Console) (v : ℕ) where
  abbrev asked : Option Command
  asked = cond j.on (command_of j.saves at v) None

  abbrev by_command : Option Command → List ℕ
  by_command c = (acted j.saves.sectors m c).flash

  abbrev by_taker : Taker → List ℕ
  by_taker t = (memories_by t j.saves m at v).flash

  asks_nothing : command_of j.saves at v ≡ None → asked ≡ None
  asks_nothing e = by j.on
    where
      by : (b : Bool) → cond b (command_of j.saves at v) None ≡ None
      by true = e
      by false = refl

  -- taken by the accelerators: the RAM's words ask for nothing; while off, neither does the one word that is taken
  window_by_command : takes j at v ≡ true → by_taker (window_taker at) ≡ by_command asked
  window_by_command t = cases (in_ram at) in_ram_lem at_register
    where
      in_ram_lem : in_ram at ≡ true → by_taker (window_taker at) ≡ by_command asked
      in_ram_lem e = ap (λ (b : Bool). by_taker (cond b (Ram (window_cell at)) Accelerators)) e ∙ ap by_command (sym (asks_nothing (ram_asks_nothing j.saves at v e)))

      same : command_of j.saves at v ≡ asked
      same =
          cases j.on (λ o. ap (λ (b : Bool). cond b (command_of j.saves at v) None) (sym o))
          (λ o.
          let e : command_of j.saves at v ≡ None =
          on_asks_nothing j.saves at v ((turns_on_exactly j.field at v).0 (sym (off_takes j at v o) ∙ t)).0 in
          e ∙ sym (asks_nothing e))

      at_register : in_ram at ≡ false → by_taker (window_taker at) ≡ by_command asked
      at_register e = ap (λ (b : Bool). by_taker (cond b (Ram (window_cell at)) Accelerators)) e ∙ ap by_command same

  -- not taken: while on, the write is outside of the window
  untaken_asks_nothing : takes j at v ≡ false → asked ≡ None
  untaken_asks_nothing n =
      cases j.on
      (λ o.
      asks_nothing
      (outside_asks_nothing j.saves at v (cases (in_window at) (λ i. true_is_not_false (on_takes j at v o i) n) (λ i. i))))
      (λ o. ap (λ (b : Bool). cond b (command_of j.saves at v) None) o)

  pub write_flash : (a : Active) (flips : List ℕ) → by_taker (taker_of j a flips at v) ≡ by_command asked
  write_flash a flips =
      cases (takes j at v) (λ t. by t ∙ window_by_command t)
      (λ n. by n ∙ tables_flash (mapped_taker a flips at v) j.saves m at v (mapped_by_tables a flips at v) ∙ ap by_command (sym (untaken_asks_nothing n)))
    where
      by : {b : Bool} → takes j at v ≡ b → by_taker (taker_of j a flips at v) ≡ by_taker (cond b (window_taker at) (mapped_taker a flips at v))
      by e = ap (λ (b : Bool). by_taker (cond b (window_taker at) (mapped_taker a flips at v))) e

-- so does every access; one that asks for no command leaves the flash, and so does every one while off
module _ (w : World) where
  abbrev behind : Option Command → List ℕ
  behind c = (acted w.cartridge.jlp.saves.sectors (memories w.flash w.ram) c).flash

  pub flash_by_command : (x : Access) → (step w x).flash ≡ behind (command_by w x)
  unfolding leaves_flash
  flash_by_command (Read a) = refl
  flash_by_command (Write a v) =
      write_flash w.cartridge.jlp (memories w.flash w.ram) a v (active_of w.cartridge) w.cartridge.flips
  flash_by_command Reset = refl

  pub only_commands : (x : Access) → command_by w x ≡ None → (step w x).flash ≡ w.flash
  only_commands x e = flash_by_command x ∙ ap behind e

  pub off_keeps_flash : (x : Access) → w.cartridge.jlp.on ≡ false → (step w x).flash ≡ w.flash
  off_keeps_flash x off = only_commands x (none x)
    where
      none : (x : Access) → command_by w x ≡ None
      none (Read a) = refl
      none (Write a v) = ap (λ (b : Bool). cond b (command_of w.cartridge.jlp.saves a v) None) off
      none Reset = refl

-- no write changes the size of the flash
chosen_size : (b : Bool) (j k : Jlp) (n : ℕ) → j.saves.sectors ≡ n → k.saves.sectors ≡ n → (cond b j k).saves.sectors ≡ n
chosen_size true j k n e f = e
chosen_size false j k n e f = f

size_kept : (j : Jlp) (at : Console) (v : ℕ) → (written_jlp j at v).saves.sectors ≡ j.saves.sectors
unfolding written_jlp written_on
size_kept j at v =
    chosen_size (turns_on j.field at v) _ _ _ refl
    (chosen_size j.on _ j _
    (chosen_size (turns_off at v) _ _ _ refl (chosen_size (is_operand at) _ _ _ refl (size_stays j.saves at v))) refl)

-- over the rows that the lent flash shows: each taker, each access, and any list of them
shown_by : (t : Taker) (s : Saves) (m : Memories) (at : Console) (v : ℕ)
    → shown_flash s.sectors (memories_by t s m at v) ≡ plain_by t s (shown_flash s.sectors m) at v
shown_by Accelerators s m at v = alike s.sectors m (command_of s at v)
shown_by (Bank p first) s m at v = refl
shown_by (Flip n) s m at v = refl
shown_by (Ram c) s m at v = refl

step_shown : (w : World) (x : Access) → shown_world (step w x) ≡ plain_step (shown_world w) x
unfolding leaves_ram leaves_flash
step_shown w (Read a) = refl
step_shown w (Write a v) = ap sized (size_kept c.jlp a v) ∙ ap world (shown_by taker c.jlp.saves lent a v)
  where
    c : Cartridge
    c = w.cartridge

    taker : Taker
    taker = taker_of c.jlp (active_of c) c.flips a v

    lent : Memories
    lent = memories w.flash w.ram

    world : PlainFlash → PlainWorld
    world p = record { cartridge = write_of c a v; plain = p }

    sized : ℕ → PlainWorld
    sized n = world (shown_flash n (memories_by taker c.jlp.saves lent a v))
step_shown w Reset = refl

said_shown : (w : World) (x : Access) → said w x ≡ plain_said (shown_world w) x
said_shown w (Read a) = refl
said_shown w (Write a v) = refl
said_shown w Reset = refl

pub answers_shown : (w : World) (xs : List Access) → answers w xs ≡ plain_answers (shown_world w) xs
answers_shown w [] = refl
answers_shown w (x ∷ xs) =
    ap (λ (l : List (Option ℕ)). said w x ++ l) (answers_shown (step w x) xs ∙ ap (λ (p : PlainWorld). plain_answers p xs) (step_shown w x))
    ∙ ap (λ (l : List (Option ℕ)). l ++ plain_answers (plain_step (shown_world w) x) xs) (said_shown w x)

pub after_shown : (w : World) (xs : List Access) → shown_world (after w xs) ≡ plain_after (shown_world w) xs
after_shown w [] = refl
after_shown w (x ∷ xs) = after_shown (step w x) xs ∙ ap (λ (p : PlainWorld). plain_after p xs) (step_shown w x)

pub as_rows : (w : World) (xs : List Access) → AsRows w xs
as_rows w xs = (answers_shown w xs, after_shown w xs)
