-- When flags and tables are refused, row by row; and refusals 10, 11 and 13 in 01's and 02's words.
use Rattle.std.specs.Prelude.{ℕ, ◌/◌, ◌%◌, ◌+◌, ◌*◌, ◌<◌, ◌≤◌, List, ◌≡◌, refl, false, ◌&&◌, ◌||◌, ◌↔◌, ◌⊎◌, eqb, leb}
use Rattle.std.proofs.Math.Bool.{true, not}
use Rattle.std.proofs.Math.Logic.{inl, inr}
use native.Mathlib.Omega.{arith}
use Rattle.std.proofs.Math.Dec.{ltb}
use borrow.Author.Tests.{eqb-false, eq-eqb, ne_eqb, ltb-true, lt-ltb, leb-true, le-leb, lt-leb}
use Rattle.basics.specs.declared.Refusal.{Refusal}
use Rattle.basics.specs.Rows.{Gives, Silent, none, also}
use Rattle.basics.specs.Laws.Tests.{or_cases, or_left, or_right, and_left, and_right, and_false, not-true}
use Rattle.basics.specs.Laws.Counts.{Place, any_at, any_of}
use Rattle.basics.specs.Laws.Refusals.{Refusing, refused_exactly, accepted_exactly}
use Rattle.places.specs.Limits.{chapter_pages}
use Rattle.header.specs.Flags.{jlp_field, flash_size, flag}
use Rattle.flash.specs.Flash.{sector_limit}
use Rattle.jlp.specs.Window.{ram_words}
use Rattle.tables.specs.Tables.{has_pFE, flips_one, unsupported, lacks_ram, flash_words, oversized, mislent, tables_rows, tables_refusal}

module _ (flags flips : List ℕ) (m f : ℕ) where
  -- each row refuses
  pub tables_refusing : Refusing (tables_rows flags flips m f)
  unfolding tables_rows
  tables_refusing = ((λ e. omega arith), ((λ e. omega arith), ((λ e. omega arith), tt)))

  pub tables_refused : (r : Refusal) → (r.number ≡ 0 → ⊥) → (tables_refusal flags flips m f ≡ r) ↔ Gives (tables_rows flags flips m f) r
  tables_refused r h = refused_exactly (tables_rows flags flips m f) tables_refusing r h

  pub tables_accepted : ((tables_refusal flags flips m f).number ≡ 0) ↔ Silent (tables_rows flags flips m f)
  tables_accepted = accepted_exactly (tables_rows flags flips m f) tables_refusing

-- with no JLP field neither number of words lent matters
pub field_none : (flags flips : List ℕ) (m f : ℕ) → jlp_field flags ≡ 0 → unsupported flags flips ≡ false → Silent (tables_rows flags flips m f)
unfolding tables_rows lacks_ram oversized mislent
field_none flags flips m f e u =
    let ram : not (eqb (jlp_field flags) 0) && ltb m ram_words ≡ false = rw (eq-eqb _ _ e) in
    let flash : (leb 2 (jlp_field flags) && ltb sector_limit (flash_size flags)) || (leb 2 (jlp_field flags) && not (eqb f (flash_words flags))) ≡ false =
    rw (lt-leb 2 (jlp_field flags) (omega arith)) in
    also u (also ram (also flash none))

-- a flash of just the words that the size asks is lent right, and one that is lent right refuses what that one does
pub lent_right : (flags : List ℕ) → mislent flags (flash_words flags) ≡ false
unfolding mislent
lent_right flags = and_false (leb 2 (jlp_field flags)) _ (rw (eq-eqb (flash_words flags) (flash_words flags) refl))

pub lent_alike : (flags flips : List ℕ) (m f : ℕ) → mislent flags f ≡ false → tables_rows flags flips m f ≡ tables_rows flags flips m (flash_words flags)
unfolding tables_rows
lent_alike flags flips m f e = rw (e, lent_right flags)

-- why 10: flag 32 is set; PFE in chapter 1
pub data Ten (flags flips : List ℕ) : Type 0 where
  mapper : flag flags 32 ≡ true → Ten flags flips
  flipped : (n : ℕ) → n / chapter_pages ≡ 1 → has_pFE flips n ≡ true → Ten flags flips

module _ (flags flips : List ℕ) where
  ten : unsupported flags flips ≡ true → Ten flags flips
  unfolding unsupported
  ten e = two (or_cases (flag flags 32) (flips_one flips) e)
    where
      three : Place chapter_pages (λ y. has_pFE flips (chapter_pages + y)) → Ten flags flips
      three p = flipped (chapter_pages + p.at) (omega (arith, p.below)) p.passes

      two : (flag flags 32 ≡ true) ⊎ (flips_one flips ≡ true) → Ten flags flips
      two (inl q) = mapper q
      two (inr q) = three (any_at chapter_pages (λ y. has_pFE flips (chapter_pages + y)) q)

  by_ten : Ten flags flips → unsupported flags flips ≡ true
  unfolding unsupported
  by_ten (mapper e) = or_left (flag flags 32) _ e
  by_ten (flipped n c e) =
      let q : chapter_pages + n % chapter_pages ≡ n = omega arith in
      let s : flips_one flips ≡ true = any_of chapter_pages (λ y. has_pFE flips (chapter_pages + y)) (n % chapter_pages) (omega arith) (rw q e) in
      or_right (flag flags 32) _ s

  pub ten_exactly : (unsupported flags flips ≡ true) ↔ Ten flags flips
  ten_exactly = (ten, by_ten)

-- and why 11: the JLP field is not 0, and fewer than 73,600 words are lent
module _ (flags : List ℕ) (m : ℕ) where
  eleven : lacks_ram flags m ≡ true → (jlp_field flags ≡ 0 → ⊥) × (m < 73600)
  unfolding lacks_ram
  eleven e = (
    eqb-false (jlp_field flags) 0 (not-true (eqb (jlp_field flags) 0) (and_left (not (eqb (jlp_field flags) 0)) (ltb m ram_words) e)),
    ltb-true m ram_words (and_right (not (eqb (jlp_field flags) 0)) (ltb m ram_words) e),
  )

  by_eleven : (jlp_field flags ≡ 0 → ⊥) × (m < 73600) → lacks_ram flags m ≡ true
  unfolding lacks_ram
  by_eleven h = rw (ne_eqb _ _ h.0, lt-ltb m ram_words h.1)

  pub eleven_exactly : (lacks_ram flags m ≡ true) ↔ ((jlp_field flags ≡ 0 → ⊥) × (m < 73600))
  eleven_exactly = (eleven, by_eleven)

-- and why 13: field 2 or 3, and more than 682 sectors, or a lent flash of another number of words than 768 for each sector
abbrev pub Thirteen : List ℕ → ℕ → Type 0
Thirteen flags f = (2 ≤ jlp_field flags) × ((682 < flash_size flags) ⊎ (f ≡ 768 * flash_size flags → ⊥))

module _ (flags : List ℕ) (f : ℕ) where
  thirteen : oversized flags || mislent flags f ≡ true → Thirteen flags f
  unfolding oversized mislent
  thirteen e = why (or_cases (leb 2 (jlp_field flags) && ltb sector_limit (flash_size flags)) _ e)
    where
      why : (leb 2 (jlp_field flags) && ltb sector_limit (flash_size flags) ≡ true) ⊎ (leb 2 (jlp_field flags) && not (eqb f (flash_words flags)) ≡ true)
          → Thirteen flags f
      why (inl q) = (
        leb-true 2 (jlp_field flags) (and_left (leb 2 (jlp_field flags)) _ q),
        inl (ltb-true sector_limit (flash_size flags) (and_right (leb 2 (jlp_field flags)) _ q)),
      )
      why (inr q) = (
        leb-true 2 (jlp_field flags) (and_left (leb 2 (jlp_field flags)) _ q),
        inr (eqb-false f (flash_words flags) (not-true (eqb f (flash_words flags)) (and_right (leb 2 (jlp_field flags)) _ q))),
      )

  by_thirteen : Thirteen flags f → oversized flags || mislent flags f ≡ true
  unfolding oversized mislent
  by_thirteen h = by h.1
    where
      by : (682 < flash_size flags) ⊎ (f ≡ 768 * flash_size flags → ⊥)
          → (leb 2 (jlp_field flags) && ltb sector_limit (flash_size flags)) || (leb 2 (jlp_field flags) && not (eqb f (flash_words flags))) ≡ true
      by (inl q) = rw (le-leb 2 (jlp_field flags) h.0, lt-ltb sector_limit (flash_size flags) q)
      by (inr q) =
          or_right (leb 2 (jlp_field flags) && ltb sector_limit (flash_size flags)) _ (rw (le-leb 2 (jlp_field flags) h.0, ne_eqb f (flash_words flags) q))

  pub thirteen_exactly : (oversized flags || mislent flags f ≡ true) ↔ Thirteen flags f
  thirteen_exactly = (thirteen, by_thirteen)
