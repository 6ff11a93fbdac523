-- What is kept: a row that no command touches, and one in use that is not erased; and what was written is read back (02, W-209; 000, JF.wrcmd).
use Rattle.std.specs.Prelude.{ℕ, ◌+◌, ◌/◌, ◌<◌, ◌≡◌, refl, List, [], ◌∷◌, Bool, true, false, ◌||◌, length, get_or, eqb, Option, Some, None}
use Rattle.std.proofs.Common.{ap, ◌∙◌, arith, eqb-true}
use Rattle.std.proofs.lemmas.Bool.{eqb-false}
use Rattle.basics.specs.Lists.{Each, none, also}
use Rattle.basics.specs.Laws.Counts.{all_same}
use Rattle.basics.specs.Laws.Tests.{cases, or_false_left}
use Rattle.places.specs.declared.Console.{Console}
use Rattle.flash.specs.declared.Command.{Command}
use Rattle.flash.specs.declared.Command.TheVariants.{Read, Write, Erase}
use Rattle.flash.specs.Flash.{row_words, sector_rows, erased_word, row_place, ram_place, row_lent, ram_lent, empty_at, row_word, ram_word, readable, writable, Memories, command_acts, acted, acted_all}
use Rattle.flash.specs.Laws.Lent.{readable_of, writable_row}
use Rattle.flash.specs.Laws.Changes.{dropped, erase_out, write_in, write_out, write_full, read_in, length_flash_all, length_ram_all}

-- an erase of the row's sector; a write of the row; either
abbrev pub erases_row : ℕ → Option Command → Bool
erases_row row (Some (Read r at)) = false
erases_row row (Some (Write r at)) = false
erases_row row (Some (Erase r)) = eqb (row / sector_rows) (r / sector_rows)
erases_row row None = false

abbrev pub writes_row : ℕ → Option Command → Bool
writes_row row (Some (Read r at)) = false
writes_row row (Some (Write r at)) = eqb row r
writes_row row (Some (Erase r)) = false
writes_row row None = false

abbrev pub touches_row : ℕ → Option Command → Bool
touches_row row c = writes_row row c || erases_row row c

-- two flashes hold the same row
abbrev pub SameRow : ℕ → List ℕ → List ℕ → Type 0
SameRow row s t = (i : ℕ) → i < row_words → row_word t row i ≡ row_word s row i

-- a row is written from one address; behind that and some more commands a read to another address gives the words that were written
abbrev pub ReadBack : ℕ → Memories → ℕ → Console → List (Option Command) → Console → Type 0
ReadBack sectors m row at cs to =
    (i : ℕ) → i < row_words → ram_word (acted sectors (acted_all sectors m (Some (Write row at) ∷ cs)) (Some (Read row to))).ram to i ≡ ram_word m.ram at i

-- equal words are empty alike
empty_as : (t : List ℕ) (b : ℕ) (s : List ℕ) (a : ℕ) → ((i : ℕ) → i < row_words → get_or t (b + i) 0 ≡ get_or s (a + i) 0) → empty_at t b ≡ empty_at s a
unfolding empty_at
empty_as t b s a h = all_same row_words _ _ (λ i l. ap (λ (w : ℕ). eqb w erased_word) (h i l))

-- a row that a command neither writes nor erases stays, and so does one that is not empty and is not erased
module _ (sectors row : ℕ) where
  pub row_unwritten : (m : Memories) (r : ℕ) (at : Console) → eqb row r ≡ false → SameRow row m.flash (acted sectors m (Some (Write r at))).flash
  row_unwritten m r at e i l =
      let n : row ≡ r → ⊥ = eqb-false row r e in
      write_out sectors m.flash m.ram r at (row_place row + i) (λ q. n (omega arith))

  pub row_unerased : (m : Memories) (r : ℕ) → eqb (row / sector_rows) (r / sector_rows) ≡ false → SameRow row m.flash (acted sectors m (Some (Erase r))).flash
  row_unerased m r e i l =
      let n : row / sector_rows ≡ r / sector_rows → ⊥ = eqb-false (row / sector_rows) (r / sector_rows) e in
      erase_out sectors m.flash m.ram r (row_place row + i) (λ q. n (omega arith))

  pub row_untouched : (m : Memories) (c : Option Command) → touches_row row c ≡ false → SameRow row m.flash (acted sectors m c).flash
  row_untouched m (Some (Read r at)) e = λ i l. refl
  row_untouched m (Some (Write r at)) e = row_unwritten m r at (or_false_left (eqb row r) false e)
  row_untouched m (Some (Erase r)) e = row_unerased m r e
  row_untouched m None e = λ i l. refl

  pub row_full : (m : Memories) (c : Option Command) → erases_row row c ≡ false → empty_at m.flash (row_place row) ≡ false → SameRow row m.flash (acted sectors m c).flash
  row_full m (Some (Read r at)) e full = λ i l. refl
  row_full m (Some (Write r at)) e full =
      cases (eqb row r)
      (λ x.
      let same : row ≡ r = eqb-true row r x in
      let no : writable sectors m.flash m.ram r at ≡ false = write_full sectors m.flash m.ram r at (rw same at full) in
      λ i l. ap (λ (n : Memories). row_word n.flash row i) (dropped sectors m (Some (Write r at)) no))
      (λ x. row_unwritten m r at x)
  row_full m (Some (Erase r)) e full = row_unerased m r e
  row_full m None e full = λ i l. refl

  -- and so for a list of commands
  pub row_untouched_all : (m : Memories) (cs : List (Option Command)) → Each (λ c. touches_row row c ≡ false) cs → SameRow row m.flash (acted_all sectors m cs).flash
  row_untouched_all m [] none i l = refl
  row_untouched_all m (c ∷ cs) (also e es) i l = row_untouched_all (acted sectors m c) cs es i l ∙ row_untouched m c e i l

  pub row_full_all : (m : Memories) (cs : List (Option Command)) → Each (λ c. erases_row row c ≡ false) cs → empty_at m.flash (row_place row) ≡ false
      → SameRow row m.flash (acted_all sectors m cs).flash
  row_full_all m [] none full i l = refl
  row_full_all m (c ∷ cs) (also e es) full i l =
      let one : SameRow row m.flash (acted sectors m c).flash = row_full m c e full in
      row_full_all (acted sectors m c) cs es (empty_as (acted sectors m c).flash (row_place row) m.flash (row_place row) one ∙ full) i l ∙ one i l

-- what was written is read back, to whatever address of the RAM, after any commands that leave the row as it is
module _ (sectors : ℕ) (m : Memories) (row : ℕ) (at : Console) (cs : List (Option Command)) (to : Console) where
  module _ (w : command_acts sectors m (Some (Write row at)) ≡ true) (reached : ram_lent (length m.ram) to ≡ true) where
    abbrev after_write : Memories
    after_write = acted sectors m (Some (Write row at))

    abbrev after_all : Memories
    after_all = acted_all sectors after_write cs

    reads : readable sectors after_all.flash after_all.ram row to ≡ true
    reads =
        readable_of sectors after_all.flash after_all.ram row to
        (ap (λ (n : ℕ). row_lent sectors n row) (length_flash_all sectors m (Some (Write row at) ∷ cs)) ∙ writable_row sectors m.flash m.ram row at w)
        (ap (λ (n : ℕ). ram_lent n to) (length_ram_all sectors m (Some (Write row at) ∷ cs)) ∙ reached)

    back : SameRow row after_write.flash after_all.flash → ReadBack sectors m row at cs to
    back kept i l =
        read_in sectors after_all.flash after_all.ram row to reads i l ∙ kept i l ∙ write_in sectors m.flash m.ram row at w i l

    -- none writes the row again or erases its sector
    pub read_back : Each (λ c. touches_row row c ≡ false) cs → ReadBack sectors m row at cs to
    read_back e = back (row_untouched_all sectors row after_write cs e)

    -- none erases its sector, and what was written was not all $FFFF: a row of $FFFF is empty still, and takes another write
    pub read_back_full : Each (λ c. erases_row row c ≡ false) cs → empty_at m.ram (ram_place at) ≡ false → ReadBack sectors m row at cs to
    read_back_full e full =
        back
        (row_full_all sectors row after_write cs e
        (empty_as after_write.flash (row_place row) m.ram (ram_place at) (write_in sectors m.flash m.ram row at w) ∙ full))
