-- Laws of the loops and of the returns, each with its premises as the code's tests and calls give them.
use Prim.Native.Nat.{ℕ, ◌+◌, ◌≤◌}
use mathlib.Core.Path.{◌≡◌, sym, ap, ◌∙◌}
use mathlib.Core.List.{List}
use mathlib.Core.Bool.{Bool, true, false, not}
use native.Mathlib.Omega.{arith}
use borrow.Author.Tests.{not-false}
use lib.ListN.{length}
use Rattle.basics.specs.Lists.{laid}
use Rattle.places.specs.declared.Console.{Console}
use Rattle.flash.specs.Flash.{row_words, sector_words, sector_limit, row_place, sector_place, ram_place, readable, writable, erasable}
use Rattle.flash.specs.Registers.{has_flash}
use Rattle.flash.specs.Laws.Lent.{row_in, sector_in, ram_in_lem, readable_row, readable_ram, writable_readable, writable_row}
use Rattle.flash.specs.Laws.Registers.{size_in}

-- a loop that stores n words, done
pub laid_done : (a n i : ℕ) (w : ℕ → ℕ) (t m : List ℕ) → i ≤ n → n ≤ i → t ≡ laid a i w m → t ≡ laid a n w m
laid_done a n i w t m h k e = let d : i ≡ n = omega arith in e ∙ ap (λ (j : ℕ). laid a j w m) d

-- what a test that held says of the lent lengths
module _ (sectors : ℕ) (flash ram : List ℕ) (row : ℕ) (at : Console) (b : Bool) (t : b ≡ true) where
  pub read_row : b ≡ readable sectors flash ram row at → row_place row + row_words ≤ length flash
  read_row e = (row_in sectors (length flash) row (readable_row sectors flash ram row at (sym e ∙ t))).1

  pub read_ram_lem : b ≡ readable sectors flash ram row at → ram_place at + row_words ≤ length ram
  read_ram_lem e = (ram_in_lem (length ram) at (readable_ram sectors flash ram row at (sym e ∙ t))).2

  pub write_row : b ≡ writable sectors flash ram row at → row_place row + row_words ≤ length flash
  write_row e = (row_in sectors (length flash) row (writable_row sectors flash ram row at (sym e ∙ t))).1

  pub write_ram : b ≡ writable sectors flash ram row at → ram_place at + row_words ≤ length ram
  write_ram e =
      let r : readable sectors flash ram row at ≡ true = writable_readable sectors flash ram row at (sym e ∙ t) in
      (ram_in_lem (length ram) at (readable_ram sectors flash ram row at r)).2

  pub erase_sector : b ≡ erasable sectors flash row → sector_place row + sector_words ≤ length flash
  erase_sector e = (sector_in sectors (length flash) row (sym e ∙ t)).1

pub ruleset fits = (read_row, read_ram_lem, write_row, write_ram, erase_sector)

-- a size that gives a flash
module _ (sectors : ℕ) (b : Bool) (e : b ≡ has_flash sectors) (t : not b ≡ false) where
  pub size_low : 1 ≤ sectors
  size_low = (size_in sectors (sym e ∙ not-false b t)).0

  pub size_high : sectors ≤ sector_limit
  size_high = (size_in sectors (sym e ∙ not-false b t)).1
