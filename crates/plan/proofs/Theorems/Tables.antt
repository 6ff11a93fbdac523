-- The Locutus pages and the three tables of some lines are those of their plan.
use Prim.Native.Nat.{ℕ, zero, suc, ◌+◌, ◌*◌, ◌/◌, ◌%◌, ◌<◌}
use Rattle.std.specs.Prelude.{◌≡◌, List, Bool, eqb}
use Rattle.std.proofs.Math.Path.{refl, sym, ap, ap₂}
use Rattle.std.proofs.Common.{◌∙◌}
use Rattle.std.proofs.Math.Bool.{true, false, cond, not}
use Rattle.std.proofs.Math.Option.{Option, none, some}
use native.Mathlib.Omega.{arith}
use Rattle.basics.specs.Counts.{count}
use Rattle.basics.specs.Options.{is_some}
use Rattle.basics.specs.Laws.Counts.{any_same, count_same, count_add, count_first}
use Rattle.basics.specs.Laws.Tables.{table_same}
use Rattle.basics.specs.Laws.Tests.{not_cond}
use Rattle.lines.specs.declared.Line.{Line}
use Rattle.lines.specs.Kinds.{kind_of}
use Rattle.lines.specs.Laws.Kinds.{some_by}
use Rattle.rules.specs.Chapters.{line_in, uses, paged, kind_at, under}
use Rattle.layout.specs.Layout.{used, page_of, pages, answering, entry_for, flip_entry, flippable, mapping_at, permissions_at, mapping_table, permissions_table, flip_table}
use Rattle.plan.specs.Plan.{has_plain, has_pages, range_is, is_under}
use Rattle.plan.specs.Image.{size, page_at, base, pages_of, chapter_flip, turns, chapter_mapping, chapter_permissions, mapping_of, permissions_of, flips_of}
use Rattle.plan.specs.OfLines.{plan_of}

module _ (lines : List Line) where
  plain_is : (x : ℕ) → has_plain (plan_of lines x) ≡ uses lines x 0
  unfolding has_plain uses
  plain_is x =
      any_same 16 (λ k. not (eqb (kind_at lines (16 * x + k)) 0)) (λ k. is_some (line_in lines 0 (16 * x + k)))
      (λ k h. sym (some_by (line_in lines 0 (16 * x + k))))

  pub pages_are : (x : ℕ) → has_pages (plan_of lines x) ≡ paged lines x
  unfolding has_pages paged
  pages_are x = refl

  pub range_is_lem : (x : ℕ) → is_under x (plan_of lines x) ≡ under lines x
  unfolding range_is under
  range_is_lem x = refl

  -- pages are counted alike
  pub used_is : (x t : ℕ) → t < 17 → used lines (17 * x + t) ≡ uses lines x t
  unfolding used
  used_is x t h = ap₂ (λ (a b : ℕ). uses lines a b) (omega arith) (omega arith)

  count_in_lem : (x y : ℕ) → y < 17 →
      count (used lines) (17 * x + suc y) ≡ count (used lines) (17 * x) + (cond (uses lines x 0) 1 0 + count (λ i. uses lines x (suc i)) y)
  count_in_lem x y h =
      count_add (used lines) (17 * x) (suc y)
      ∙ ap (λ (n : ℕ). count (used lines) (17 * x) + n)
      (count_first (λ i. used lines (17 * x + i)) y
      ∙ ap₂ (λ (m n : ℕ). m + n) (ap (λ (b : Bool). cond b 1 0) (used_is x 0 (omega arith)))
      (count_same (λ i. used lines (17 * x + suc i)) (λ i. uses lines x (suc i)) y (λ i l. used_is x (suc i) (omega arith))))

  pub base_is : (x : ℕ) → base (plan_of lines) x ≡ count (used lines) (17 * x)
  unfolding base size count
  base_is zero = refl
  base_is (suc x) =
      let e : 17 * suc x ≡ 17 * x + suc 16 = omega arith in
      rw (base_is x, plain_is x) (sym (ap (count (used lines)) e ∙ count_in_lem x 16 (omega arith)))

  pub pages_is : pages lines ≡ pages_of (plan_of lines)
  unfolding pages
  pages_is = sym (base_is 16)

  pub plain_page : (x : ℕ) → base (plan_of lines) x ≡ page_of lines x 0
  unfolding page_of
  plain_page x = base_is x ∙ ap (count (used lines)) (omega arith)

  pub page_page : (x y : ℕ) → y < 16 → page_at (plan_of lines x) (base (plan_of lines) x) y ≡ page_of lines x (suc y)
  unfolding page_at page_of
  page_page x y h = rw (base_is x, plain_is x) (omega (arith, count_in_lem x y (omega arith)))

  -- the three tables
  flip_is : (x y : ℕ) → y < 16 → flip_entry lines x y ≡ chapter_flip x (plan_of lines x) (base (plan_of lines) x) y
  unfolding chapter_flip flip_entry answering
  flip_is x y h =
      rw (pages_are x, range_is_lem x, page_page x y h, plain_page x)
      (by (paged lines x) (uses lines x (suc y)) (under lines x) (page_of lines x (suc y)) (page_of lines x 0))
    where
      by : (p u a : Bool) (m n : ℕ) → cond p (entry_for (cond {A = Option ℕ} u (some m) (cond {A = Option ℕ} a (some n) none))) 0
          ≡ cond p (cond u (16 * m + 9) (cond a (16 * n + 9) 8)) 0
      by true true a m n = refl
      by true false true m n = refl
      by true false false m n = refl
      by false u a m n = refl

  whole : (p : ℕ) → 16 * (p / 16) + p % 16 ≡ p
  whole p = omega arith

  mapping_at_lem : (p : ℕ) → mapping_at lines 0 p ≡ chapter_mapping (p / 16) (plan_of lines (p / 16)) (base (plan_of lines) (p / 16)) (p % 16)
  unfolding chapter_mapping mapping_at turns flippable
  mapping_at_lem p =
      rw (
        pages_are (p / 16),
        ← flip_is (p / 16) 0 (omega arith),
        plain_page (p / 16),
        whole p,
        some_by (line_in lines 0 p),
        not_cond (eqb (kind_of (line_in lines 0 p)) 0) 0 (16 * page_of lines (p / 16) 0 + p % 16),
      )

  permissions_at_lem : (p : ℕ) → permissions_at lines 0 p ≡ chapter_permissions (p / 16) (plan_of lines (p / 16)) (base (plan_of lines) (p / 16)) (p % 16)
  unfolding chapter_permissions permissions_at turns flippable
  permissions_at_lem p =
      rw (pages_are (p / 16), ← flip_is (p / 16) 0 (omega arith), whole p)

  pub mapping_is : mapping_table lines ≡ mapping_of (plan_of lines)
  mapping_is =
      table_same 0 256 (mapping_at lines 0) (λ p. chapter_mapping (p / 16) (plan_of lines (p / 16)) (base (plan_of lines) (p / 16)) (p % 16))
      (λ p h. mapping_at_lem p)

  pub permissions_is : permissions_table lines ≡ permissions_of (plan_of lines)
  permissions_is =
      table_same 0 256 (permissions_at lines 0) (λ p. chapter_permissions (p / 16) (plan_of lines (p / 16)) (base (plan_of lines) (p / 16)) (p % 16))
      (λ p h. permissions_at_lem p)

  pub flips_is : flip_table lines ≡ flips_of (plan_of lines)
  flips_is =
      table_same 0 256 (λ n. flip_entry lines (n / 16) (n % 16)) (λ n. chapter_flip (n / 16) (plan_of lines (n / 16)) (base (plan_of lines) (n / 16)) (n % 16))
      (λ n h. flip_is (n / 16) (n % 16) (omega arith))
