-- Chapters of one image: such that are the same, and page 0 of sixteen made plain. Plans of such chapters have one image (W-213, Fact 2).
use Prim.Native.Nat.{◌%◌, ◌*◌, ◌+◌, ◌/◌, ◌<◌, ◌≤◌, suc, zero, ℕ}
use Rattle.std.proofs.Common.{◌∙◌, ap, ⊎_elim, arith}
use Rattle.std.specs.Prelude.{◌≡◌, Bool, ◌&&◌, ◌||◌, true, leb}
use Rattle.std.proofs.Math.Path.{refl, sym}
use Rattle.std.proofs.Math.Bool.{false, not}
use Rattle.std.proofs.Math.Dec.{eqb, ltb}
use borrow.Author.Tests.{eq-eqb, eqb-true, le-leb, ne_eqb}
use Rattle.basics.specs.Counts.{any, count}
use Rattle.basics.specs.Laws.Counts.{Place, all_same, any_at, any_of, any_same, count_first, count_same}
use Rattle.basics.specs.Laws.Tables.{table_same}
use Rattle.basics.specs.Laws.Tests.{and_false, and_right, and_true, cases, or_cases, or_left, or_right, same_test, true_is_not_false}
use Rattle.switches.specs.Flips.{first_k}
use Rattle.switches.specs.Laws.Flips.{first_small}
use Rattle.plan.specs.Image.{base, chapter_flip, chapter_mapping, chapter_permissions, covered_of, holds_page, holds_plain, holds_ram, page_at, ram_covered_of, size, turns}
use Rattle.plan.specs.Plan.{Chapter, Plan, has_pages, has_plain, is_under, range_is}
use Rattle.behind.specs.Builds.{plan_tables}
use Rattle.behind.proofs.Theorems.Chapter.{Full, full_is, has_pages_lem, plain_not, plain_of, range_of}
use Rattle.behind.specs.Laws.Counts.{count_all}
use Rattle.behind.specs.Laws.Star.{Same, full, holds_any, moved, star_at}

-- wherever its pages start, the chapter gives the same part of the image
pub record Alike (x : ℕ) (c d : Chapter) : Type 0 where
  pub sizes : size c ≡ size d
  pub entries : (b y : ℕ) → y < 16 → chapter_flip x c b y ≡ chapter_flip x d b y
  pub mappings : (b k : ℕ) → k < 16 → chapter_mapping x c b k ≡ chapter_mapping x d b k
  pub permissions : (b k : ℕ) → k < 16 → chapter_permissions x c b k ≡ chapter_permissions x d b k
  pub covers : (b p : ℕ) → holds_any x c b p ≡ holds_any x d b p
  pub rams : (b p : ℕ) → holds_ram c b p ≡ holds_ram d b p

-- the same
module _ {c d : Chapter} (s : Same c d) where
  plain_same : has_plain c ≡ has_plain d
  unfolding has_plain
  plain_same = any_same 16 (λ k. not (eqb (c.kind k) 0)) (λ k. not (eqb (d.kind k) 0)) (λ k h. rw (s.kinds k h))

  pub paged_same : has_pages c ≡ has_pages d
  unfolding has_pages
  paged_same = any_same 16 c.page d.page s.pages

  pub range_same : (x n : ℕ) → range_is x c n ≡ range_is x d n
  unfolding range_is
  range_same x n = all_same 16 _ (λ k. ltb k (first_k x) || eqb (d.kind k) n) (λ k h. rw (s.kinds k h))

  size_same : size c ≡ size d
  unfolding size
  size_same = rw (plain_same, count_same c.page d.page 16 s.pages)

  pub page_same : (b y : ℕ) → y < 16 → page_at c b y ≡ page_at d b y
  unfolding page_at
  page_same b y h = rw (plain_same, count_same c.page d.page y (λ i l. s.pages i (omega arith)))

  entry_same : (x b y : ℕ) → y < 16 → chapter_flip x c b y ≡ chapter_flip x d b y
  unfolding chapter_flip
  entry_same x b y h = rw (paged_same, s.pages y h, page_same b y h, range_same x 1)

  holds_same : (x b p : ℕ) → holds_any x c b p ≡ holds_any x d b p
  unfolding holds_plain holds_page
  holds_same x b p =
      rw (
        s.kinds (p % 16) (omega arith),
        any_same 16 (λ y. c.page y && eqb (p / 16) (page_at c b y)) (λ y. d.page y && eqb (p / 16) (page_at d b y))
            (λ y h. rw (s.pages y h, page_same b y h)),
      )

  pub same_alike : (x : ℕ) → Alike x c d
  unfolding chapter_mapping chapter_permissions turns holds_ram
  same_alike x =
      record {
        sizes = size_same;
        entries = entry_same x;
        mappings = λ b k h. rw (paged_same, entry_same x b 0 (omega arith), s.kinds k h);
        permissions = λ b k h. rw (paged_same, entry_same x b 0 (omega arith), s.kinds k h);
        covers = holds_same x;
        rams = λ b p. rw (s.kinds (p % 16) (omega arith));
      }

-- page 0 made plain
module _ (x : ℕ) where
  pub moved_count : (n : ℕ) → count (moved x).page (suc n) ≡ n
  moved_count n =
      count_first (moved x).page n
      ∙ ap (λ (m : ℕ). 0 + m) (count_all (λ i. not (eqb (suc i) 0)) n (λ i h. rw (ne_eqb (suc i) 0 (omega arith)))) ∙ omega arith

  moved_plain : has_plain (moved x) ≡ true
  moved_plain = plain_of (moved x) 8 (omega arith) (λ e. by (rw (le-leb (first_k x) 8 (first_small x)) at e))
    where
      by : ◌≡◌ {A = ℕ} 1 0 → ⊥
      by e = omega arith

  moved_paged : has_pages (moved x) ≡ true
  moved_paged = has_pages_lem (moved x) 1 (omega arith) refl

  moved_under : is_under x (moved x) ≡ true
  unfolding range_is
  moved_under = range_of x (moved x) 1 (λ k h t. rw (le-leb (first_k x) k t))

  moved_size : size (moved x) ≡ 16
  unfolding size
  moved_size = rw (moved_plain, moved_count 15)

  moved_page : (b n : ℕ) → page_at (moved x) b (suc n) ≡ b + suc n
  unfolding page_at
  moved_page b n = rw (moved_plain, moved_count n) (omega arith)

  moved_entry : (b y : ℕ) → chapter_flip x (moved x) b y ≡ 16 * (b + y) + 9
  unfolding chapter_flip
  moved_entry b zero = rw (moved_paged, moved_under) (omega arith)
  moved_entry b (suc n) = rw (moved_paged, ne_eqb (suc n) 0 (omega arith), moved_page b n)

  module _ (c : Chapter) (f : Full c) where
    full_count : (y : ℕ) → y ≤ 16 → count c.page y ≡ y
    full_count y h = count_all c.page y (λ i l. f.pages i (omega arith))

    full_paged : has_pages c ≡ true
    full_paged = has_pages_lem c 0 (omega arith) (f.pages 0 (omega arith))

    full_size : size c ≡ 16
    unfolding size
    full_size = rw (f.none, full_count 16 (omega arith))

    full_page : (b y : ℕ) → y < 16 → page_at c b y ≡ b + y
    unfolding page_at
    full_page b y h = rw (f.none, full_count y (omega arith)) (omega arith)

    full_entry : (b y : ℕ) → y < 16 → chapter_flip x c b y ≡ 16 * (b + y) + 9
    unfolding chapter_flip
    full_entry b y h = rw (full_paged, f.pages y h, full_page b y h)

    entry_moved : (b y : ℕ) → y < 16 → chapter_flip x (moved x) b y ≡ chapter_flip x c b y
    entry_moved b y h = moved_entry b y ∙ sym (full_entry b y h)

    kind_low : (k : ℕ) → k < 16 → leb (first_k x) k ≡ false → (moved x).kind k ≡ c.kind k
    kind_low k h e = rw e (sym (plain_not c f.none k h))

    -- each Locutus paragraph from the range's first k on, in sixteen pages
    module _ (b p : ℕ) where
      abbrev l : ℕ
      l = p / 16

      found_moved : (y : ℕ) → y < 16 → (moved x).page y && eqb l (page_at (moved x) b y) ≡ true → l ≡ b + y
      found_moved zero h e = true_is_not_false e refl
      found_moved (suc n) h e = eqb-true l (page_at (moved x) b (suc n)) (and_right ((moved x).page (suc n)) _ e) ∙ moved_page b n

      in_c : (y : ℕ) → y < 16 → l ≡ b + y → any 16 (λ i. c.page i && eqb l (page_at c b i)) ≡ true
      in_c y h e =
          any_of 16 (λ i. c.page i && eqb l (page_at c b i)) y h
          (and_true (c.page y) (eqb l (page_at c b y)) (f.pages y h) (eq-eqb l (page_at c b y) (e ∙ sym (full_page b y h))))

      in_moved : (y : ℕ) → y < 16 → l ≡ b + y → eqb l b || any 16 (λ i. (moved x).page i && eqb l (page_at (moved x) b i)) ≡ true
      in_moved zero h e = or_left (eqb l b) _ (eq-eqb l b (omega arith))
      in_moved (suc n) h e =
          or_right (eqb l b) _
          (any_of 16 (λ i. (moved x).page i && eqb l (page_at (moved x) b i)) (suc n) h
          (and_true ((moved x).page (suc n)) (eqb l (page_at (moved x) b (suc n))) (rw (ne_eqb (suc n) 0 (omega arith))) (eq-eqb l _ (e ∙ sym (moved_page b n)))))

      pages_moved : eqb l b || any 16 (λ i. (moved x).page i && eqb l (page_at (moved x) b i)) ≡ any 16 (λ i. c.page i && eqb l (page_at c b i))
      pages_moved =
          same_test _ _
          (λ e.
          ⊎_elim (λ q. in_c 0 (omega arith) (omega (arith, eqb-true l b q)))
          (λ q.
          let w : Place 16 (λ i. (moved x).page i && eqb l (page_at (moved x) b i)) = any_at 16 _ q in
          in_c w.at w.below (found_moved w.at w.below w.passes))
          (or_cases (eqb l b) _ e))
          (λ e.
          let w : Place 16 (λ i. c.page i && eqb l (page_at c b i)) = any_at 16 _ e in
          in_moved w.at w.below (eqb-true l (page_at c b w.at) (and_right (c.page w.at) _ w.passes) ∙ full_page b w.at w.below))

      and_yes : (a : Bool) → a && true ≡ a
      and_yes true = refl
      and_yes false = refl

      holds_moved : holds_any x (moved x) b p ≡ holds_any x c b p
      unfolding holds_plain holds_page
      holds_moved =
          cases (leb (first_k x) (p % 16))
          (λ e.
          rw (e, plain_not c f.none (p % 16) (omega arith), and_false (eqb (p / 16) b) false refl, and_yes (eqb (p / 16) b)) pages_moved)
          (λ e. rw (e, plain_not c f.none (p % 16) (omega arith)))

      ram_moved : holds_ram (moved x) b p ≡ holds_ram c b p
      unfolding holds_ram
      ram_moved =
          cases (leb (first_k x) (p % 16)) (λ e. rw (e, plain_not c f.none (p % 16) (omega arith)))
          (λ e. rw (e, plain_not c f.none (p % 16) (omega arith)))

    pub moved_alike : Alike x (moved x) c
    unfolding chapter_mapping chapter_permissions turns
    moved_alike =
        record {
          sizes = moved_size ∙ sym full_size;
          entries = entry_moved;
          mappings =
              λ b k h.
              cases (leb (first_k x) k) (λ e. rw (moved_paged, full_paged, e, entry_moved b 0 (omega arith)))
              (λ e. rw (moved_paged, full_paged, kind_low k h e, e));
          permissions =
              λ b k h.
              cases (leb (first_k x) k) (λ e. rw (moved_paged, full_paged, e, entry_moved b 0 (omega arith)))
              (λ e. rw (moved_paged, full_paged, kind_low k h e, e));
          covers = holds_moved;
          rams = ram_moved;
        }

pub alike_join : {x : ℕ} {c d e : Chapter} → Alike x c d → Alike x d e → Alike x c e
alike_join f g =
    record {
      sizes = f.sizes ∙ g.sizes;
      entries = λ b y h. f.entries b y h ∙ g.entries b y h;
      mappings = λ b k h. f.mappings b k h ∙ g.mappings b k h;
      permissions = λ b k h. f.permissions b k h ∙ g.permissions b k h;
      covers = λ b p. f.covers b p ∙ g.covers b p;
      rams = λ b p. f.rams b p ∙ g.rams b p;
    }

pub star_alike : (x : ℕ) (c : Chapter) → Alike x (star_at x c) c
star_alike x c =
    cases (full c) (λ e. rw e (moved_alike x c (full_is c e)))
    (λ e. rw e (same_alike (record { kinds = λ k h. refl; pages = λ y h. refl }) x))

-- plans of such chapters
module _ (q r : Plan) (each : (x : ℕ) → x < 16 → Alike x (q x) (r x)) where
  pub base_alike : (x : ℕ) → x ≤ 16 → base q x ≡ base r x
  unfolding base
  base_alike zero h = refl
  base_alike (suc x) h = rw (base_alike x (omega arith), (each x (omega arith)).sizes)

  mapping_alike : (p : ℕ) → p < 256 → chapter_mapping (p / 16) (q (p / 16)) (base q (p / 16)) (p % 16) ≡ chapter_mapping (p / 16) (r (p / 16)) (base r (p / 16)) (p % 16)
  mapping_alike p h = rw (base_alike (p / 16) (omega arith)) ((each (p / 16) (omega arith)).mappings (base r (p / 16)) (p % 16) (omega arith))

  permission_alike : (p : ℕ) → p < 256 → chapter_permissions (p / 16) (q (p / 16)) (base q (p / 16)) (p % 16) ≡ chapter_permissions (p / 16) (r (p / 16)) (base r (p / 16)) (p % 16)
  permission_alike p h = rw (base_alike (p / 16) (omega arith)) ((each (p / 16) (omega arith)).permissions (base r (p / 16)) (p % 16) (omega arith))

  entry_alike : (p : ℕ) → p < 256 → chapter_flip (p / 16) (q (p / 16)) (base q (p / 16)) (p % 16) ≡ chapter_flip (p / 16) (r (p / 16)) (base r (p / 16)) (p % 16)
  entry_alike p h = rw (base_alike (p / 16) (omega arith)) ((each (p / 16) (omega arith)).entries (base r (p / 16)) (p % 16) (omega arith))

  pub tables_alike : plan_tables q ≡ plan_tables r
  tables_alike =
      cc (table_same 0 256 _ _ mapping_alike, table_same 0 256 _ _ permission_alike, table_same 0 256 _ _ entry_alike)

  pub covered_alike : (p : ℕ) → covered_of q p ≡ covered_of r p
  covered_alike p =
      any_same 16 (λ x. holds_any x (q x) (base q x) p) (λ x. holds_any x (r x) (base r x) p)
      (λ x h. rw (base_alike x (omega arith)) ((each x h).covers (base r x) p))

  pub ram_alike : (p : ℕ) → ram_covered_of q p ≡ ram_covered_of r p
  ram_alike p =
      any_same 16 (λ x. holds_ram (q x) (base q x) p) (λ x. holds_ram (r x) (base r x) p)
      (λ x h. rw (base_alike x (omega arith)) ((each x h).rams (base r x) p))
