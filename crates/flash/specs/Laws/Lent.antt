-- What the tests of a command say of numbers.
use Rattle.std.specs.Prelude.{ℕ, ◌+◌, ◌*◌, ◌<◌, ◌≤◌, List, ◌≡◌, false, ◌&&◌, length}
use Rattle.std.proofs.Math.Bool.{Bool, true}
use Rattle.std.proofs.Common.{arith}
use Rattle.std.proofs.Math.Dec.{leb}
use borrow.Author.Tests.{ltb-true, leb-true, lt-ltb, le-ltb, le-leb, lt-leb}
use Rattle.basics.specs.Laws.Tests.{and_left, and_right, and_true, and_false, same_test}
use Rattle.places.specs.declared.Console.{Console}
use Rattle.places.specs.Limits.{lent}
use Rattle.flash.specs.Flash.{row_words, sector_rows, sector_words, ram_start, ram_end, row_place, sector_place, ram_place, in_range, row_lent, sector_lent, ram_lent, readable, writable}

module _ (sectors words row : ℕ) where
  pub row_in : row_lent sectors words row ≡ true → (row < sector_rows * sectors) × (row_place row + row_words ≤ words)
  unfolding row_lent
  row_in e =
      let there : Bool = in_range sectors row in
      let whole : Bool = leb (row_place row + row_words) words in
      (ltb-true _ _ (and_left there whole e), leb-true _ _ (and_right there whole e))

  pub row_of_lem : row < sector_rows * sectors → row_place row + row_words ≤ words → row_lent sectors words row ≡ true
  unfolding row_lent
  row_of_lem h k = and_true _ _ (lt-ltb _ _ h) (le-leb _ _ k)

  -- a row past the range, and one that a lent flash does not hold whole
  pub row_past : sector_rows * sectors ≤ row → row_lent sectors words row ≡ false
  unfolding row_lent
  row_past h = rw (le-ltb _ _ h)

  pub row_short : words < row_place row + row_words → row_lent sectors words row ≡ false
  unfolding row_lent
  row_short h = and_false (in_range sectors row) _ (lt-leb _ _ h)

  pub sector_in : sector_lent sectors words row ≡ true → (row < sector_rows * sectors) × (sector_place row + sector_words ≤ words)
  unfolding sector_lent
  sector_in e =
      let there : Bool = in_range sectors row in
      let whole : Bool = leb (sector_place row + sector_words) words in
      (ltb-true _ _ (and_left there whole e), leb-true _ _ (and_right there whole e))

  pub sector_of : row < sector_rows * sectors → sector_place row + sector_words ≤ words → sector_lent sectors words row ≡ true
  unfolding sector_lent
  sector_of h k = and_true _ _ (lt-ltb _ _ h) (le-leb _ _ k)

  -- a sector holds its row
  pub sector_row : sector_lent sectors words row ≡ true → row_lent sectors words row ≡ true
  sector_row e = row_of_lem (sector_in e).0 (omega (arith, (sector_in e).1))

module _ (words : ℕ) (at : Console) where
  pub ram_in_lem : ram_lent words at ≡ true → (ram_start ≤ at.0) × (at.0 + row_words ≤ ram_end + 1) × (ram_place at + row_words ≤ words)
  unfolding ram_lent
  ram_in_lem e =
      let low : Bool = leb ram_start at.0 in
      let high : Bool = leb (at.0 + row_words) (ram_end + 1) in
      let whole : Bool = leb (ram_place at + row_words) words in
      let rest : high && whole ≡ true = and_right low (high && whole) e in
      (leb-true _ _ (and_left low (high && whole) e), leb-true _ _ (and_left high whole rest), leb-true _ _ (and_right high whole rest))

  pub ram_of_lem : ram_start ≤ at.0 → at.0 + row_words ≤ ram_end + 1 → ram_place at + row_words ≤ words → ram_lent words at ≡ true
  unfolding ram_lent
  ram_of_lem h k l = and_true _ _ (le-leb _ _ h) (and_true _ _ (le-leb _ _ k) (le-leb _ _ l))

-- the RAM that commands reach lies far below the 524,288 words that count, so that a RAM's own length may be asked
pub ram_counts : (ram : List ℕ) (at : Console) → ram_lent (length ram) at ≡ ram_lent (lent ram) at
ram_counts ram at =
    same_test _ _
    (λ e. ram_of_lem (lent ram) at (ram_in_lem (length ram) at e).0 (ram_in_lem (length ram) at e).1 (omega (arith, ram_in_lem (length ram) at e)))
    (λ e. ram_of_lem (length ram) at (ram_in_lem (lent ram) at e).0 (ram_in_lem (lent ram) at e).1 (omega (arith, ram_in_lem (lent ram) at e)))

-- a command that acts has its row and its RAM
module _ (sectors : ℕ) (flash ram : List ℕ) (row : ℕ) (at : Console) where
  pub readable_row : readable sectors flash ram row at ≡ true → row_lent sectors (length flash) row ≡ true
  unfolding readable
  readable_row e = and_left (row_lent sectors (length flash) row) _ e

  pub readable_ram : readable sectors flash ram row at ≡ true → ram_lent (length ram) at ≡ true
  unfolding readable
  readable_ram e = and_right (row_lent sectors (length flash) row) _ e

  pub readable_of : row_lent sectors (length flash) row ≡ true → ram_lent (length ram) at ≡ true → readable sectors flash ram row at ≡ true
  unfolding readable
  readable_of e f = and_true _ _ e f

  pub writable_readable : writable sectors flash ram row at ≡ true → readable sectors flash ram row at ≡ true
  unfolding writable
  writable_readable e = and_left (readable sectors flash ram row at) _ e

  pub writable_row : writable sectors flash ram row at ≡ true → row_lent sectors (length flash) row ≡ true
  writable_row e = readable_row (writable_readable e)
