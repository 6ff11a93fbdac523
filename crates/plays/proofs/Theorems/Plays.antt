-- Demand 3: a built cartridge plays as its CFG reads, over every list of accesses. By a relation that each access keeps.
use Rattle.std.specs.Prelude.{ℕ, List, ◌∷◌, [], ◌≡◌, refl, false, get_or, Option}
use Rattle.std.proofs.Common.{ap, ◌∙◌}
use Rattle.switches.specs.Banks.{BANKSW}
use Rattle.jlp.specs.declared.Jlp.{Jlp}
use Rattle.cart.specs.Run.{World, Access, step, Read, Write, Reset, said, after, answers}
use Rattle.cart.proofs.Theorems.Flash.{off_keeps_flash}
use Rattle.lines.specs.declared.Line.{Line}
use Rattle.rules.specs.Laws.Rules.{Good, good}
use Rattle.rules.specs.Accepted.{Accepted}
use Rattle.plays.specs.Plain.{Plain, plain_step, plain_said, plain_answers, fresh}
use Rattle.plays.specs.Laws.Tabled.{Tabled, tabled_reset, tabled_start}
use Rattle.plays.specs.Laws.Held.{Held, held_start}
use Rattle.plays.proofs.Theorems.Steps.{tabled_unbanked, tables_after, ram_after_lem, read_alike}
use Rattle.plays.specs.Loaded.{Loaded, loaded}

-- the tables are those of the page numbers, and each word of a line is at its place
pub record Tied (bin : List ℕ) (lines : List Line) (w : World) (c : Plain) : Type 0 where
  pub tabled : Tabled lines w.cartridge c.number
  pub held : Held bin lines w.ram c.ram

module _ {bin : List ℕ} {lines : List Line} (g : Good lines) where
  step_tied : (w : World) (c : Plain) (x : Access) → Tied bin lines w c → Tied bin lines (step w x) (plain_step lines c x)
  step_tied w c (Read a) t = t
  step_tied w c (Write a v) t =
      record {
        tabled = tables_after g w.cartridge w.ram c.number c.ram t.tabled t.held a v;
        held = ram_after_lem g w.cartridge w.ram c.number c.ram t.tabled t.held a v w.flash;
      }
  step_tied w c Reset t = record { tabled = tabled_reset t.tabled; held = t.held }

  unbanked_after : (w : World) (c : Plain) (xs : List Access) → Tied bin lines w c → (p : ℕ) → BANKSW (get_or (after w xs).cartridge.permissions p 0) ≡ false
  unbanked_after w c [] t p = tabled_unbanked g w.cartridge c.number t.tabled p
  unbanked_after w c (x ∷ xs) t p = unbanked_after (step w x) (plain_step lines c x) xs (step_tied w c x t) p

  said_alike : (w : World) (c : Plain) (x : Access) → Tied bin lines w c → said w x ≡ plain_said bin lines c x
  said_alike w c (Read a) t =
      ap (λ (r : Option ℕ). r ∷ []) (read_alike g w.cartridge w.ram c.number c.ram t.tabled t.held a)
  said_alike w c (Write a v) t = refl
  said_alike w c Reset t = refl

  answers_alike : (w : World) (c : Plain) (xs : List Access) → Tied bin lines w c → answers w xs ≡ plain_answers bin lines c xs
  answers_alike w c [] t = refl
  answers_alike w c (x ∷ xs) t =
      simp (said_alike w c x t, answers_alike (step w x) (plain_step lines c x) xs (step_tied w c x t))

  -- it has no accelerators, so that its flash is left alone
  flash_after_lem : (w : World) (c : Plain) (xs : List Access) → Tied bin lines w c → (after w xs).flash ≡ w.flash
  flash_after_lem w c [] t = refl
  flash_after_lem w c (x ∷ xs) t =
      flash_after_lem (step w x) (plain_step lines c x) xs (step_tied w c x t) ∙ off_keeps_flash w x (ap (λ (j : Jlp). j.on) t.tabled.jlp)

  start_tied : (flash ram : List ℕ) → Loaded bin lines ram → Tied bin lines (loaded lines flash ram) fresh
  start_tied flash ram h = record { tabled = tabled_start lines; held = held_start bin g.fine ram h }

-- for lines that a build accepts, any RAM with the image's words in it, and any flash
pub plays : {bin : List ℕ} {lines : List Line} → Accepted bin lines → (flash ram : List ℕ) → Loaded bin lines ram → (xs : List Access) →
    answers (loaded lines flash ram) xs ≡ plain_answers bin lines fresh xs
plays {bin} {lines} a flash ram h xs = answers_alike (good a) (loaded lines flash ram) fresh xs (start_tied (good a) flash ram h)

-- which it leaves alone (02, W-209)
pub flash_alone : {bin : List ℕ} {lines : List Line} → Accepted bin lines → (flash ram : List ℕ) → Loaded bin lines ram → (xs : List Access) →
    (after (loaded lines flash ram) xs).flash ≡ flash
flash_alone {bin} {lines} a flash ram h xs = flash_after_lem (good a) (loaded lines flash ram) fresh xs (start_tied (good a) flash ram h)

-- and no access sets BANKSW in it, so a write to a bankswitch register is an ordinary write
pub never_banked : {bin : List ℕ} {lines : List Line} → Accepted bin lines → (flash ram : List ℕ) → Loaded bin lines ram → (xs : List Access) (p : ℕ) →
    BANKSW (get_or (after (loaded lines flash ram) xs).cartridge.permissions p 0) ≡ false
never_banked {bin} {lines} a flash ram h xs p = unbanked_after (good a) (loaded lines flash ram) fresh xs (start_tied (good a) flash ram h) p
