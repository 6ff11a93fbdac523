-- A run over a plain flash: the same accesses, where the flash is a list of rows and no lent words (02, W-209).
use Rattle.std.specs.Prelude.{◌≡◌, ℕ, List, [], ◌∷◌, ◌++◌, Option}
use Rattle.places.specs.declared.Console.{Console}
use Rattle.flash.specs.declared.Saves.{Saves}
use Rattle.flash.specs.Flash.{memories}
use Rattle.flash.specs.Registers.{command_of}
use Rattle.flash.specs.Plain.{PlainFlash, plain_flash, plain_acted}
use Rattle.flash.specs.Shown.{shown_flash}
use Rattle.cart.specs.declared.Cartridge.{Cartridge}
use Rattle.cart.specs.declared.Taker.{Taker}
use Rattle.cart.specs.declared.Taker.TheVariants.{Accelerators, Bank, Flip, Ram}
use Rattle.cart.specs.Writes.{taker_of, stored}
use Rattle.cart.specs.Cartridges.{active_of, write_of, reset_of, read_of}
use Rattle.cart.specs.Run.{World, Access, Read, Write, Reset, after, answers}

-- a cartridge, with rows of flash and the RAM that is lent to it
pub record PlainWorld : Type 0 where
  pub cartridge : Cartridge
  pub plain : PlainFlash

-- what each taker of a write leaves of the rows and of the RAM
abbrev pub plain_by : Taker → Saves → PlainFlash → Console → ℕ → PlainFlash
plain_by Accelerators s p at v = plain_acted p (command_of s at v)
plain_by (Bank q first) s p at v = p
plain_by (Flip n) s p at v = p
plain_by (Ram c) s p at v = plain_flash p.rows (stored c p.ram v)

abbrev pub plain_written : Cartridge → PlainFlash → Console → ℕ → PlainFlash
plain_written c p at v = plain_by (taker_of c.jlp (active_of c) c.flips at v) c.jlp.saves p at v

-- what an access leaves, and what it answers
abbrev pub plain_step : PlainWorld → Access → PlainWorld
plain_step w (Read a) = w
plain_step w (Write a v) = record { cartridge = write_of w.cartridge a v; plain = plain_written w.cartridge w.plain a v }
plain_step w Reset = record { cartridge = reset_of w.cartridge; plain = w.plain }

abbrev pub plain_said : PlainWorld → Access → List (Option ℕ)
plain_said w (Read a) = read_of w.cartridge w.plain.ram a ∷ []
plain_said w (Write a v) = []
plain_said w Reset = []

-- what a run leaves, and its answers in order
abbrev pub plain_after : PlainWorld → List Access → PlainWorld
plain_after w [] = w
plain_after w (x ∷ xs) = plain_after (plain_step w x) xs

abbrev pub plain_answers : PlainWorld → List Access → List (Option ℕ)
plain_answers w [] = []
plain_answers w (x ∷ xs) = plain_said w x ++ plain_answers (plain_step w x) xs

-- the plain world that a cartridge with its lent memories shows: the rows of its size that are wholly lent
abbrev pub shown_world : World → PlainWorld
shown_world w = record { cartridge = w.cartridge; plain = shown_flash w.cartridge.jlp.saves.sectors (memories w.flash w.ram) }

-- any list of accesses answers as a plain list of rows would, with the same rows behind it
abbrev pub AsRows : World → List Access → Type 0
AsRows w xs = (answers w xs ≡ plain_answers (shown_world w) xs) × (shown_world (after w xs) ≡ plain_after (shown_world w) xs)
