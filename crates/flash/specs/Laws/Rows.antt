-- The rows that a lent flash shows, and what words laid into it make of them.
use Rattle.std.specs.Prelude.{ℕ, ◌+◌, ◌*◌, ◌/◌, ◌%◌, ◌<◌, ◌≤◌, ◌≡◌, Bool, cond, ◌⊎◌, length, get_or, eqb}
use Rattle.std.proofs.Common.{sym, ap, ◌∙◌, inl, inr, arith}
use mathlib.Core.List.{List, []}
use borrow.Author.Tests.{eqb-true, eqb-false}
use Rattle.basics.specs.Lists.{laid}
use Rattle.basics.specs.Tables.{table}
use Rattle.basics.specs.Laws.Lists.{laid_in, laid_out}
use Rattle.basics.specs.Laws.Tables.{length_table, get_d_table, table_of, table_same}
use Rattle.basics.specs.Laws.Tests.{cases, compare}
use Rattle.flash.specs.Flash.{row_words, sector_rows, sector_words, erased_word, row_place, row_word}
use Rattle.flash.specs.Plain.{blank_row, changed}
use Rattle.flash.specs.Shown.{row_at, row_count, flash_rows}

-- the words of a row
pub row_word_lem : (flash : List ℕ) (r i : ℕ) → i < row_words → get_or (row_at flash r) i 0 ≡ row_word flash r i
unfolding row_at
row_word_lem flash r i l = get_d_table 0 row_words (row_word flash r) i l

-- the rows are so many, and each is the flash's
module _ (sectors : ℕ) (flash : List ℕ) where
  pub length_rows : length (flash_rows sectors flash) ≡ row_count sectors (length flash)
  unfolding flash_rows
  length_rows = length_table _ (row_at flash)

  pub rows_at : (r : ℕ) → r < row_count sectors (length flash) → get_or (flash_rows sectors flash) r [] ≡ row_at flash r
  unfolding flash_rows
  rows_at r h = get_d_table [] _ (row_at flash) r h

  -- a flash of exactly its length shows all its rows
  pub rows_whole : length flash ≡ sector_words * sectors → length (flash_rows sectors flash) ≡ sector_rows * sectors
  rows_whole e = omega (arith, length_rows)

-- a flash of the same length, of which some rows are another
pub rows_changed : (sectors : ℕ) (flash t : List ℕ) (on : ℕ → Bool) (row : List ℕ) → length t ≡ length flash
    → ((r : ℕ) → row_at t r ≡ cond (on r) row (row_at flash r)) → flash_rows sectors t ≡ changed (flash_rows sectors flash) on row
unfolding changed
rows_changed sectors flash t on row e h =
    let many : length (flash_rows sectors flash) ≡ row_count sectors (length flash) = length_rows sectors flash in
    table_of [] (length (flash_rows sectors flash)) (λ r. cond (on r) row (get_or (flash_rows sectors flash) r [])) (flash_rows sectors t)
    (length_rows sectors t ∙ ap (row_count sectors) e ∙ sym many)
    (λ r l.
    let b : r < row_count sectors (length flash) = rw many at l in
    rows_at sectors t r (rw e b) ∙ h r ∙ ap (cond (on r) row) (sym (rows_at sectors flash r b)))

-- words laid over row k
module _ (flash : List ℕ) (k : ℕ) (w : ℕ → ℕ) (h : row_place k + row_words ≤ length flash) (r : ℕ) where
  side : (i : ℕ) → i < row_words → (r ≡ k → ⊥) → (r ≡ k) ⊎ ((r < k) ⊎ (k < r)) → (row_place r + i < row_place k) ⊎ (row_place k + row_words ≤ row_place r + i)
  side i l n (inl e) = absurd (n e)
  side i l n (inr (inl b)) = inl (omega arith)
  side i l n (inr (inr b)) = inr (omega arith)

  pub laid_row : row_at (laid (row_place k) row_words w flash) r ≡ cond (eqb r k) (table row_words w) (row_at flash r)
  unfolding row_at
  laid_row =
      cases (eqb r k)
      (λ e.
      let same : r ≡ k = eqb-true r k e in
      rw e (table_same 0 row_words _ w (λ i l. rw same (laid_in (row_place k) w flash row_words i l (omega arith)))))
      (λ e.
      rw e
      (table_same 0 row_words _ (row_word flash r)
      (λ i l. laid_out (row_place k) w flash row_words (row_place r + i) (side i l (eqb-false r k e) (compare r k)))))

-- sector s erased
module _ (flash : List ℕ) (s : ℕ) (h : sector_words * s + sector_words ≤ length flash) (r : ℕ) where
  abbrev blanked : List ℕ
  blanked = laid (sector_words * s) sector_words (λ i. erased_word) flash

  inside : (i : ℕ) → i < row_words → r / sector_rows ≡ s → row_word blanked r i ≡ erased_word
  inside i l e =
      let q : row_place r + i ≡ sector_words * s + (row_words * (r % sector_rows) + i) = omega arith in
      ap (λ (p : ℕ). get_or blanked p 0) q
      ∙ laid_in (sector_words * s) (λ j. erased_word) flash sector_words (row_words * (r % sector_rows) + i) (omega arith) (omega arith)

  beside : (i : ℕ) → i < row_words → (r / sector_rows ≡ s → ⊥) → (r / sector_rows ≡ s) ⊎ ((r / sector_rows < s) ⊎ (s < r / sector_rows))
      → (row_place r + i < sector_words * s) ⊎ (sector_words * s + sector_words ≤ row_place r + i)
  beside i l n (inl e) = absurd (n e)
  beside i l n (inr (inl b)) = inl (omega arith)
  beside i l n (inr (inr b)) = inr (omega arith)

  pub laid_sector : row_at blanked r ≡ cond (eqb (r / sector_rows) s) blank_row (row_at flash r)
  unfolding row_at blank_row
  laid_sector =
      cases (eqb (r / sector_rows) s)
      (λ e. rw e (table_same 0 row_words _ (λ i. erased_word) (λ i l. inside i l (eqb-true _ _ e))))
      (λ e.
      rw e
      (table_same 0 row_words _ (row_word flash r)
      (λ i l.
      laid_out (sector_words * s) (λ j. erased_word) flash sector_words (row_place r + i)
      (beside i l (eqb-false _ _ e) (compare (r / sector_rows) s)))))
