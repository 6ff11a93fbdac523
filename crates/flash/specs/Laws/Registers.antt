-- The registers: without a flash they are silent and keep nothing; at other addresses than theirs nothing is heard, kept or asked for; the rows
-- that they name are those of the flash.
use Rattle.std.specs.Prelude.{ℕ, ◌*◌, ◌<◌, ◌≤◌, List, ◌≡◌, true, false, length, leb, eqb, None}
use Rattle.std.proofs.Common.{arith}
use borrow.Author.Tests.{leb-true, le-leb, lt-ltb, ltb-true, ne_eqb}
use Rattle.basics.specs.Laws.Tests.{and_left, and_right, same_test, cases}
use Rattle.places.specs.declared.Console.{Console}
use Rattle.flash.specs.declared.Saves.{Saves}
use Rattle.flash.specs.Flash.{sector_rows, sector_words, sector_limit}
use Rattle.flash.specs.Registers.{jf_first, jf_last, jf_addr, jf_row, jf_wrcmd, jf_rdcmd, jf_ercmd, has_flash, last_row, flash_heard, remembered, command_of}
use Rattle.flash.specs.Plain.{has_row}
use Rattle.flash.specs.Shown.{flash_rows}
use Rattle.flash.specs.Laws.Rows.{rows_whole}

-- the sizes that give a flash
module _ (sectors : ℕ) where
  pub size_in : has_flash sectors ≡ true → (1 ≤ sectors) × (sectors ≤ sector_limit)
  unfolding has_flash
  size_in e = (leb-true _ _ (and_left (leb 1 sectors) (leb sectors sector_limit) e), leb-true _ _ (and_right (leb 1 sectors) (leb sectors sector_limit) e))

  -- the rows of a flash that is lent whole are those up to the last that JF.last gives
  pub rows_named : has_flash sectors ≡ true → (flash : List ℕ) → length flash ≡ sector_words * sectors → (row : ℕ)
      → has_row (flash_rows sectors flash) row ≡ leb row (last_row sectors)
  rows_named e flash h row =
      let z : (1 ≤ sectors) × (sectors ≤ sector_limit) = size_in e in
      let n : length (flash_rows sectors flash) ≡ sector_rows * sectors = rows_whole sectors flash h in
      same_test _ _
      (λ t. let l : row < length (flash_rows sectors flash) = ltb-true _ _ t in le-leb row (last_row sectors) (omega arith))
      (λ t. let l : row ≤ last_row sectors = leb-true _ _ t in lt-ltb row (length (flash_rows sectors flash)) (omega arith))

-- a read that is neither of the first row nor of the last
pub others_silent : (s : Saves) (at : Console) → (at.0 ≡ jf_first → ⊥) → (at.0 ≡ jf_last → ⊥) → flash_heard s at ≡ None
unfolding flash_heard
others_silent s at a b = cases (has_flash s.sectors) (λ e. rw (e, ne_eqb _ _ a, ne_eqb _ _ b)) (λ e. rw e)

module _ (s : Saves) (at : Console) (v : ℕ) where
  -- no flash of this size
  module _ (e : has_flash s.sectors ≡ false) where
    pub silent : flash_heard s at ≡ None
    unfolding flash_heard
    silent = rw e

    pub not_kept : remembered s at v ≡ s
    unfolding remembered
    not_kept = rw e

    pub not_asked : command_of s at v ≡ None
    unfolding command_of
    not_asked = rw e

  -- a write that is of no command asks for none
  pub others_ask_nothing : (at.0 ≡ jf_wrcmd → ⊥) → (at.0 ≡ jf_rdcmd → ⊥) → (at.0 ≡ jf_ercmd → ⊥) → command_of s at v ≡ None
  unfolding command_of
  others_ask_nothing a b d = cases (has_flash s.sectors) (λ e. rw (e, ne_eqb _ _ a, ne_eqb _ _ b, ne_eqb _ _ d)) (λ e. rw e)

  -- a write that is neither of the address nor of the row, as a command's is
  pub registers_stay : (at.0 ≡ jf_addr → ⊥) → (at.0 ≡ jf_row → ⊥) → remembered s at v ≡ s
  unfolding remembered
  registers_stay a r = cases (has_flash s.sectors) (λ e. rw (e, ne_eqb _ _ a, ne_eqb _ _ r)) (λ e. rw e)

  -- no write changes the size
  pub size_stays : (remembered s at v).sectors ≡ s.sectors
  unfolding remembered
  size_stays =
      cases (has_flash s.sectors)
      (λ e. cases (eqb at.0 jf_addr) (λ a. rw (e, a)) (λ a. cases (eqb at.0 jf_row) (λ r. rw (e, a, r)) (λ r. rw (e, a, r))))
      (λ e. rw e)
