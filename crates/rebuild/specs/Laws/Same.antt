-- Plans that are the same chapter by chapter have the same canonical lines, BIN and RAM; and a plan behind tables of 256 entries is the one in its two arrays.
use Prim.Native.Nat.{◌%◌, ◌*◌, ◌+◌, ◌-◌, ◌/◌, ◌<◌, ◌≤◌, suc, zero, ℕ}
use Rattle.std.specs.Prelude.{List, ◌≡◌, Bool, ◌&&◌, cond, false, eqb, ltb, get_or, length}
use Rattle.std.proofs.Common.{◌∙◌, ap₂, sym, arith, ltb-false, ltb-true}
use Rattle.std.proofs.Math.Path.{ap, fun_ext, refl}
use Rattle.std.proofs.Math.Bool.{not}
use Rattle.std.proofs.Math.ListN.{get_or-eq_default}
use Rattle.basics.specs.Counts.{count}
use Rattle.basics.specs.Laws.Counts.{any_nothing}
use Rattle.basics.specs.Laws.Tables.{get_d_table, length_table}
use Rattle.basics.specs.Laws.Tests.{and_false, cases}
use Rattle.basics.specs.Tables.{table}
use Rattle.places.specs.Places.{bin_word, console, page}
use Rattle.tables.specs.Tables.{Tables}
use Rattle.lines.specs.declared.Entry.{Entry}
use Rattle.lines.specs.declared.Entry.TheVariants.{Paged, Ram, Rom}
use Rattle.plan.specs.Fewest.{starts}
use Rattle.plan.specs.Image.{base, page_at, ram_covered_of}
use Rattle.plan.specs.Plan.{Plan, has_page, kinds}
use Rattle.plan.specs.Valid.{allowed, is_ram_kind, may_flip}
use Rattle.behind.specs.Behind.{behind, chapter_behind, has_entries}
use Rattle.behind.proofs.Theorems.Alike.{page_same, ram_alike, same_alike}
use Rattle.behind.proofs.Theorems.Fewer.{kind_at_lem, page_at_lem}
use Rattle.behind.specs.Laws.Star.{Same}
use Rattle.canon.specs.Bin.{canonical_bin, canonical_words}
use Rattle.canon.specs.Canonical.{is_rom, mapping_entries, page_entry, page_offset, page_start, page_words, ram_entry, ram_width, reach, rom_entry, starts_ram, starts_rom}
use Rattle.canon.specs.Laws.Lines.{canonical_lines, line, page_line, ram_line, rom_line}
use Rattle.ledger.specs.Code.Lists.{listing_of}
use Rattle.ledger.specs.Held.{plan_in}

module _ (q r : Plan) (each : (x : ℕ) → Same (q x) (r x)) where
  kind_same : (p : ℕ) → (q (p / 16)).kind (p % 16) ≡ (r (p / 16)).kind (p % 16)
  kind_same p = (each (p / 16)).kinds (p % 16) (omega arith)

  paged_same : (n : ℕ) → (q (n / 16)).page (n % 16) ≡ (r (n / 16)).page (n % 16)
  paged_same n = (each (n / 16)).pages (n % 16) (omega arith)

  base_same : (x : ℕ) → base q x ≡ base r x
  unfolding base
  base_same zero = refl
  base_same (suc x) = rw (base_same x, (same_alike (each x) x).sizes)

  place_same : (n b : ℕ) → page_at (q (n / 16)) b (n % 16) ≡ page_at (r (n / 16)) b (n % 16)
  place_same n b = page_same (each (n / 16)) b (n % 16) (omega arith)

  -- as functions of the place
  kinds_are : kinds q ≡ kinds r
  kinds_are = fun_ext kind_same

  pages_are : has_page q ≡ has_page r
  pages_are = fun_ext paged_same

  roms_are : is_rom q ≡ is_rom r
  roms_are = ap {B = ℕ → Bool} (λ (k : ℕ → ℕ) (p : ℕ). eqb (k p) 1) kinds_are

  rom_starts_are : starts_rom q ≡ starts_rom r
  rom_starts_are = ap {B = ℕ → Bool} (λ (k : ℕ → ℕ) (p : ℕ). starts k p && eqb (k p) 1) kinds_are

  ram_starts_are : starts_ram q ≡ starts_ram r
  ram_starts_are = ap {B = ℕ → Bool} (λ (k : ℕ → ℕ) (p : ℕ). starts k p && is_ram_kind (k p)) kinds_are

  offset_same : (n : ℕ) → page_offset q n ≡ page_offset r n
  unfolding page_offset
  offset_same zero = ap (λ (f : ℕ → Bool). 256 * count f 256) roms_are
  offset_same (suc n) = rw (offset_same n, paged_same n)

  rom_entries_are : rom_entry q ≡ rom_entry r
  rom_entries_are =
      ap {B = ℕ → Entry}
      (λ (k : ℕ → ℕ) (p : ℕ).
      Rom (bin_word (256 * count (λ i. eqb (k i) 1) p)) (bin_word (256 * count (λ i. eqb (k i) 1) p + (256 * reach k p (256 - p) - 1))) (console (256 * p)))
      kinds_are

  page_entries_are : page_entry q ≡ page_entry r
  page_entries_are =
      fun_ext
      (λ n.
      ap (λ (o : ℕ). Paged (bin_word o) (bin_word (o + (page_words (n / 16) - 1))) (page_start (n / 16)) (page (n % 16))) (offset_same n))

  ram_entries_are : ram_entry q ≡ ram_entry r
  ram_entries_are =
      ap {B = ℕ → Entry} (λ (k : ℕ → ℕ) (p : ℕ). Ram (console (256 * p)) (console (256 * p + (256 * reach k p (256 - p) - 1))) (ram_width (k p))) kinds_are

  entries_same : mapping_entries q ≡ mapping_entries r
  entries_same = simp (rom_starts_are, pages_are, rom_entries_are, page_entries_are)

  rom_lines_are : rom_line q ≡ rom_line r
  rom_lines_are =
      fun_ext (λ p. ap₂ line (ap (λ (f : ℕ → Bool). 2 + count f p) rom_starts_are) (ap (λ (f : ℕ → Entry). f p) rom_entries_are))

  page_lines_are : page_line q ≡ page_line r
  page_lines_are =
      fun_ext
      (λ n.
      ap₂ line (ap₂ (λ (f g : ℕ → Bool). 2 + count f 256 + count g n) rom_starts_are pages_are) (ap (λ (f : ℕ → Entry). f n) page_entries_are))

  ram_lines_are : ram_line q ≡ ram_line r
  ram_lines_are =
      fun_ext
      (λ p.
      ap₂ line
      (ap₂ (λ (es : List Entry) (f : ℕ → Bool). 1 + cond (eqb (length es) 0) 1 (2 + length es) + count f p) entries_same ram_starts_are)
      (ap (λ (f : ℕ → Entry). f p) ram_entries_are))

  lines_same : canonical_lines q ≡ canonical_lines r
  lines_same = simp (rom_starts_are, ram_starts_are, pages_are, rom_lines_are, page_lines_are, ram_lines_are)

  pub listing_same : listing_of q ≡ listing_of r
  unfolding listing_of
  listing_same = rw (entries_same, lines_same)

  pub bin_same : (w : ℕ → ℕ) → canonical_bin q w ≡ canonical_bin r w
  unfolding canonical_bin canonical_words
  bin_same w = simp (roms_are, pages_are, base_same, place_same)

  pub ram_same : (p : ℕ) → ram_covered_of q p ≡ ram_covered_of r p
  ram_same = ram_alike q r (λ x h. same_alike (each x) x)

-- past the sixteen chapters nothing is shown
module _ (t : Tables) (named : ℕ → Bool) (ep : length t.permissions ≡ 256) (ef : length t.flips ≡ 256) where
  abbrev plan : Plan
  plan = behind t named

  module _ (x : ℕ) (far : 16 ≤ x) where
    no_entries : has_entries x (λ y. get_or t.flips (16 * x + y) 0) ≡ false
    unfolding has_entries
    no_entries =
        and_false (may_flip x) _
        (any_nothing 16 (λ y. not (eqb (get_or t.flips (16 * x + y) 0) 0))
        (λ y h. rw (get_or-eq_default t.flips 0 {n = 16 * x + y} (omega arith))))

    far_kind : (k : ℕ) → (plan x).kind k ≡ 0
    unfolding chapter_behind allowed
    far_kind k = rw (no_entries, get_or-eq_default t.permissions 0 {n = 16 * x + k} (omega arith))

    far_page : (y : ℕ) → (plan x).page y ≡ false
    unfolding chapter_behind
    far_page y = rw no_entries

  abbrev ks : List ℕ
  ks = table 256 (kinds plan)

  abbrev ps : List Bool
  ps = table 256 (has_page plan)

  pub in_arrays : (x : ℕ) → Same (plan_in ks ps x) (plan x)
  in_arrays x =
      cases (ltb x 16)
      (λ e.
      let h : x < 16 = ltb-true x 16 e in
      record {
        kinds = λ k l. get_d_table 0 256 (kinds plan) (16 * x + k) (omega arith) ∙ kind_at_lem plan (16 * x + k) x k (omega arith) (omega arith);
        pages = λ y l. get_d_table false 256 (has_page plan) (16 * x + y) (omega arith) ∙ page_at_lem plan (16 * x + y) x y (omega arith) (omega arith);
      })
      (λ e.
      let h : 16 ≤ x = ltb-false x 16 e in
      record {
        kinds = λ k l. get_or-eq_default ks 0 {n = 16 * x + k} (omega (arith, length_table 256 (kinds plan))) ∙ sym (far_kind x h k);
        pages = λ y l. get_or-eq_default ps false {n = 16 * x + y} (omega (arith, length_table 256 (has_page plan))) ∙ sym (far_page x h y);
      })
