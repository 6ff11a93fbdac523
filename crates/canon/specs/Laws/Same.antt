-- The canonical BIN is one of the words that the plan covers: where two images agree on those, it is the same.
use Prim.Native.Nat.{◌%◌, ◌*◌, ◌+◌, ◌/◌, ◌<◌, ◌≤◌, ℕ}
use Rattle.std.proofs.Common.{◌∙◌}
use Rattle.std.specs.Prelude.{◌≡◌, refl, ◌&&◌, ◌||◌, leb}
use Rattle.std.proofs.Math.Path.{ap, ap₂}
use mathlib.Core.List.{List, ◌++◌}
use Rattle.std.proofs.Math.Bool.{true}
use native.Mathlib.Omega.{arith}
use Rattle.std.proofs.Math.Dec.{eqb}
use borrow.Author.Tests.{eq-eqb, eqb-true, le-leb, ne_eqb}
use Rattle.basics.specs.Laws.Counts.{any_of}
use Rattle.basics.specs.Laws.Tables.{table_same}
use Rattle.basics.specs.Laws.Tests.{and_true, or_left, or_right}
use Rattle.basics.specs.Lists.{flat, joined}
use Rattle.switches.specs.Flips.{first_k}
use Rattle.switches.specs.Laws.Flips.{first_small}
use Rattle.plan.specs.Image.{base, covered_of, holds_page, holds_plain, page_at}
use Rattle.plan.specs.Plan.{Plan, has_page, kinds}
use Rattle.canon.specs.Bin.{be16, canonical_bin, canonical_words, or_zero, page_place, paged_words, plain_place, rom_words, words_from}
use Rattle.canon.specs.Canonical.{is_rom, page_words}
use Rattle.basics.specs.Laws.Listed.{listed_same}

module _ (q : Plan) where
  -- a word of plain ROM, and of a page, is in a paragraph that is covered
  plain_covered : (p i : ℕ) → p < 256 → is_rom q p ≡ true → i < 256 → covered_of q ((plain_place q p + i) / 256) ≡ true
  unfolding holds_plain
  plain_covered p i h e l =
      let b : ℕ = base q (p / 16) in
      let a : (plain_place q p + i) / 256 ≡ 16 * b + p % 16 = omega arith in
      let c : (16 * b + p % 16) / 16 ≡ b = omega arith in
      let d : (16 * b + p % 16) % 16 ≡ p % 16 = omega arith in
      let k : kinds q p ≡ 1 = eqb-true (kinds q p) 1 e in
      let o : holds_plain (q (p / 16)) b (16 * b + p % 16) ≡ true =
      and_true (eqb ((16 * b + p % 16) / 16) b) _ (eq-eqb _ b c) (rw (d, ne_eqb (kinds q p) 0 (λ z. omega arith))) in
      ap (λ (n : ℕ). covered_of q n) a
      ∙ any_of 16 (λ x. holds_plain (q x) (base q x) (16 * b + p % 16) || holds_page x (q x) (base q x) (16 * b + p % 16)) (p / 16) (omega arith) (or_left _ _ o)

  page_covered : (n i : ℕ) → n < 256 → has_page q n ≡ true → i < page_words (n / 16) → covered_of q ((page_place q n + i) / 256) ≡ true
  unfolding holds_page
  page_covered n i h e l =
      let x : ℕ = n / 16 in
      let m : ℕ = page_at (q x) (base q x) (n % 16) in
      let f : first_k x ≤ 8 = first_small x in
      let p : ℕ = 16 * m + (first_k x + i / 256) in
      let a : (page_place q n + i) / 256 ≡ p = omega arith in
      let c : p / 16 ≡ m = omega arith in
      let d : p % 16 ≡ first_k x + i / 256 = omega arith in
      let o : holds_page x (q x) (base q x) p ≡ true =
      and_true (leb (first_k x) (p % 16)) _ (le-leb (first_k x) (p % 16) (omega arith))
      (any_of 16 (λ y. (q x).page y && eqb (p / 16) (page_at (q x) (base q x) y)) (n % 16) (omega arith) (and_true ((q x).page (n % 16)) _ e (eq-eqb (p / 16) m c))) in
      ap (λ (k : ℕ). covered_of q k) a
      ∙ any_of 16 (λ z. holds_plain (q z) (base q z) p || holds_page z (q z) (base q z) p) x (omega arith) (or_right (holds_plain (q x) (base q x) p) _ o)

  module _ (w v : ℕ → ℕ) (same : (i : ℕ) → covered_of q (i / 256) ≡ true → w i ≡ v i) where
    roms : rom_words q w ≡ rom_words q v
    roms =
        ap flat
        (listed_same 256 (is_rom q) (is_rom q) (λ p. words_from w (plain_place q p) 256) (λ p. words_from v (plain_place q p) 256)
        (λ p h. refl)
        (λ p h e.
        table_same 0 256 (λ i. w (plain_place q p + i)) (λ i. v (plain_place q p + i)) (λ i l. same (plain_place q p + i) (plain_covered p i h e l))))

    pages : paged_words q w ≡ paged_words q v
    pages =
        ap flat
        (listed_same 256 (has_page q) (has_page q) (λ n. words_from w (page_place q n) (page_words (n / 16))) (λ n. words_from v (page_place q n) (page_words (n / 16)))
        (λ n h. refl)
        (λ n h e.
        table_same 0 (page_words (n / 16)) (λ i. w (page_place q n + i)) (λ i. v (page_place q n + i)) (λ i l. same (page_place q n + i) (page_covered n i h e l))))

    pub bin_same : canonical_bin q w ≡ canonical_bin q v
    unfolding canonical_bin canonical_words
    bin_same = ap₂ (λ (a b : List ℕ). joined be16 (or_zero (a ++ b))) roms pages
