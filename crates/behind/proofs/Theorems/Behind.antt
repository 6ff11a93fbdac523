-- The plan behind the image of a plan is that plan with page 0 made plain where it may be (W-213, Fact 1); and the plan behind any image is valid.
use Prim.Native.Nat.{◌%◌, ◌*◌, ◌+◌, ◌-◌, ◌/◌, ◌<◌, ◌≤◌, suc, zero, ℕ}
use Rattle.std.proofs.Common.{◌∙◌, ap, ⊎_elim, arith}
use Rattle.std.specs.Prelude.{◌≡◌, Bool, ◌&&◌, ◌||◌, cond, eqb, get_or}
use Rattle.std.proofs.Math.Path.{ap₂, refl}
use Rattle.std.proofs.Math.Bool.{false, not, true}
use Rattle.std.proofs.Math.Dec.{leb}
use borrow.Author.Tests.{eqb-false, eqb-true, le-leb, le-ltb, leb-true, ne_eqb}
use Rattle.basics.specs.Counts.{any, count}
use Rattle.basics.specs.Laws.Counts.{Place, any_at, count_more, count_same}
use Rattle.basics.specs.Laws.Tables.{get_d_table}
use Rattle.basics.specs.Laws.Tests.{and_left, and_right, cases, compare, not-true, or_cases, or_left, or_right}
use Rattle.switches.specs.Flips.{first_k}
use Rattle.cart.specs.Reads.{silent}
use Rattle.tables.specs.Tables.{Tables}
use Rattle.plan.specs.Fewest.{fewest, starts}
use Rattle.plan.specs.Image.{base, chapter_flip, chapter_permissions, covered_of, holds_page, holds_plain, page_at, size}
use Rattle.plan.specs.Plan.{Chapter, Plan, has_page, has_pages, has_plain, is_bare, is_under, kinds, range_is}
use Rattle.plan.specs.Valid.{Valid, ValidAt, allowed, may_flip, quiet}
use Rattle.behind.specs.Behind.{base_behind, behind, behind_at, chapter_behind, has_entries, hidden, kind_shown}
use Rattle.behind.specs.Builds.{plan_tables}
use Rattle.behind.proofs.Theorems.Alike.{Alike, alike_join, same_alike, star_alike}
use Rattle.behind.proofs.Theorems.Chapter.{found_same, plain_of, range_of}
use Rattle.behind.specs.Laws.Counts.{any_one, not_any}
use Rattle.behind.proofs.Theorems.Fewer.{page_at_lem}
use Rattle.behind.specs.Laws.Star.{Same, full, holds_any, star}

-- the words of a chapter lie in its Locutus pages
pub record In (b n l : ℕ) : Type 0 where
  pub from : b ≤ l
  pub to : l < b + n

holds_in : (x : ℕ) (c : Chapter) (b p : ℕ) → holds_any x c b p ≡ true → In b (size c) (p / 16)
unfolding holds_plain holds_page size page_at
holds_in x c b p e = ⊎_elim plainly pagely (or_cases (holds_plain c b p) (holds_page x c b p) e)
  where
    plainly : eqb (p / 16) b && not (eqb (c.kind (p % 16)) 0) ≡ true → In b (size c) (p / 16)
    plainly q =
        let l : p / 16 ≡ b = eqb-true (p / 16) b (and_left _ _ q) in
        let k : c.kind (p % 16) ≡ 0 → ⊥ = eqb-false (c.kind (p % 16)) 0 (not-true _ (and_right (eqb (p / 16) b) _ q)) in
        let s : has_plain c ≡ true = plain_of c (p % 16) (omega arith) k in
        record { from = omega arith; to = rw s (omega arith) }

    pagely : leb (first_k x) (p % 16) && any 16 (λ y. c.page y && eqb (p / 16) (b + cond (has_plain c) 1 0 + count c.page y)) ≡ true → In b (size c) (p / 16)
    pagely q =
        let w : Place 16 (λ y. c.page y && eqb (p / 16) (b + cond (has_plain c) 1 0 + count c.page y)) = any_at 16 _ (and_right (leb (first_k x) (p % 16)) _ q) in
        let l : p / 16 ≡ b + cond (has_plain c) 1 0 + count c.page w.at = eqb-true (p / 16) _ (and_right (c.page w.at) _ w.passes) in
        let m : count c.page w.at < count c.page 16 = count_more c.page w.at 16 (and_left (c.page w.at) _ w.passes) w.below in
        record { from = omega arith; to = omega arith }

size_some : (c : Chapter) → has_pages c ≡ true → 1 ≤ size c
unfolding size has_pages
size_some c e =
    let w : Place 16 c.page = any_at 16 c.page e in
    omega (arith, count_more c.page w.at 16 w.passes w.below)

base_past : (q : Plan) (x n : ℕ) → x < n → base q x + size (q x) ≤ base q n
unfolding base
base_past q x zero h = absurd (omega arith)
base_past q x (suc n) h =
    ⊎_elim (λ e. rw e (omega arith))
    (λ d. ⊎_elim (λ l. omega (arith, base_past q x n l)) (λ l. absurd (omega arith)) d)
    (compare x n)

module _ (q : Plan) where
  -- whether the paragraph that the plan behind asks for is named
  name_by : (x : ℕ) → x < 16 → has_pages (q x) ≡ true → covered_of q (16 * base q x + 8) ≡ holds_any x (q x) (base q x) (16 * base q x + 8)
  name_by x h pg =
      let e : (16 * base q x + 8) / 16 ≡ base q x = omega arith in
      any_one 16 (λ n. holds_any n (q n) (base q n) (16 * base q x + 8)) x h
      (λ n l t.
      let i : In (base q n) (size (q n)) ((16 * base q x + 8) / 16) = holds_in n (q n) (base q n) (16 * base q x + 8) t in
      let f : base q n ≤ base q x = rw e at i.from in
      let g : base q x < base q n + size (q n) = rw e at i.to in
      ⊎_elim (λ z. z)
      (λ d. ⊎_elim (λ s. absurd (omega (arith, base_past q n x s))) (λ s. absurd (omega (arith, base_past q x n s, size_some (q x) pg))) d)
      (compare n x))

  permission_by : (x k : ℕ) → x < 16 → k < 16 → get_or (plan_tables q).permissions (16 * x + k) 0 ≡ chapter_permissions x (q x) (base q x) k
  permission_by x k h l =
      get_d_table 0 256 (λ p. chapter_permissions (p / 16) (q (p / 16)) (base q (p / 16)) (p % 16)) (16 * x + k) (omega arith)
      ∙ ap₂ (λ (a b : ℕ). chapter_permissions a (q a) (base q a) b) (omega arith) (omega arith)

  entry_by_lem : (x y : ℕ) → x < 16 → y < 16 → get_or (plan_tables q).flips (16 * x + y) 0 ≡ chapter_flip x (q x) (base q x) y
  entry_by_lem x y h l =
      get_d_table 0 256 (λ n. chapter_flip (n / 16) (q (n / 16)) (base q (n / 16)) (n % 16)) (16 * x + y) (omega arith)
      ∙ ap₂ (λ (a b : ℕ). chapter_flip a (q a) (base q a) b) (omega arith) (omega arith)

  module _ (v : Valid q) where
    found_star : (x : ℕ) → x < 16 → Same (behind_at (plan_tables q) (covered_of q) x (base q x)) (star q x)
    found_star x h =
        found_same x (q x) (base q x) (v x h) (λ k. get_or (plan_tables q).permissions (16 * x + k) 0) (λ y. get_or (plan_tables q).flips (16 * x + y) 0) (covered_of q)
        (λ k l. permission_by x k h l) (λ y l. entry_by_lem x y h l) (name_by x h)

    base_found : (x : ℕ) → x ≤ 16 → base_behind (plan_tables q) (covered_of q) x ≡ base q x
    unfolding base_behind base
    base_found zero h = refl
    base_found (suc x) h =
        rw (base_found x (omega arith))
        (ap (λ (n : ℕ). base q x + n) ((same_alike (found_star x (omega arith)) x).sizes ∙ (star_alike x (q x)).sizes))

    -- Fact 1
    pub behind_star : (x : ℕ) → x < 16 → Same (behind (plan_tables q) (covered_of q) x) (star q x)
    behind_star x h = rw (base_found x (omega arith)) (found_star x h)

    pub behind_alike : (x : ℕ) → x < 16 → Alike x (behind (plan_tables q) (covered_of q) x) (q x)
    behind_alike x h = alike_join (same_alike (behind_star x h) x) (star_alike x (q x))

-- plans that are the same have as many fewest
module _ (q r : Plan) (s : (x : ℕ) → x < 16 → Same (q x) (r x)) where
  kind_same : (p : ℕ) → p < 256 → kinds q p ≡ kinds r p
  kind_same p h = (s (p / 16) (omega arith)).kinds (p % 16) (omega arith)

  pub lines_same : fewest q ≡ fewest r
  unfolding fewest starts
  lines_same =
      ap₂ (λ (m n : ℕ). m + n)
      (count_same (starts (kinds q)) (starts (kinds r)) 256 (λ p h. again p (kinds q p) (kinds r p) (kinds q (p - 1)) (kinds r (p - 1)) (kind_same p h) (kind_same (p - 1) (omega arith))))
      (count_same (has_page q) (has_page r) 256 (λ n h. (s (n / 16) (omega arith)).pages (n % 16) (omega arith)))
    where
      again : (p a b c d : ℕ) → a ≡ b → c ≡ d → not (eqb a 0) && (eqb p 0 || not (eqb c a)) ≡ not (eqb b 0) && (eqb p 0 || not (eqb d b))
      again p a b c d e f = rw (e, f)

-- page 0 made plain leaves a line
pub star_some : (q : Plan) → 1 ≤ fewest q → 1 ≤ fewest (star q)
unfolding fewest
star_some q h = cases (any 16 (λ x. full (q x))) (λ e. left (any_at 16 _ e)) (λ e. rw (lines_same (star q) q (kept e)) h)
  where
    left : Place 16 (λ x. full (q x)) → 1 ≤ fewest (star q)
    left w =
        let e : (star q w.at).page 1 ≡ true = rw w.passes in
        let f : has_page (star q) (16 * w.at + 1) ≡ true = page_at_lem (star q) (16 * w.at + 1) w.at 1 (omega arith) (omega arith) ∙ e in
        omega (arith, count_more (has_page (star q)) (16 * w.at + 1) 256 f (omega (arith, w.below)))

    kept : any 16 (λ x. full (q x)) ≡ false → (x : ℕ) → x < 16 → Same (star q x) (q x)
    kept e x l = rw (not_any 16 (λ n. full (q n)) e x l) (record { kinds = λ k i. refl; pages = λ y i. refl })

-- any image's plan is valid
flips_loud : (x k : ℕ) → k < 16 → may_flip x ≡ true → quiet (16 * x + k) ≡ false
unfolding may_flip quiet silent
flips_loud x k h e =
    let c : 256 * (16 * x + k) / 4096 ≡ x = omega arith in
    ⊎_elim
    (λ q. let z : x ≡ 2 = eqb-true x 2 q in rw (c, le-ltb (256 * (16 * x + k)) 0x500 (omega arith), ne_eqb x 1 (omega arith), ne_eqb x 3 (omega arith)))
    (λ q. let z : 4 ≤ x = leb-true 4 x q in rw (c, le-ltb (256 * (16 * x + k)) 0x500 (omega arith), ne_eqb x 1 (omega arith), ne_eqb x 3 (omega arith)))
    (or_cases (eqb x 2) (leb 4 x) e)

zero_allowed : (p : ℕ) → allowed p 0 ≡ true
unfolding allowed
zero_allowed p = refl

module _ (x : ℕ) (permission row : ℕ → ℕ) (named : ℕ → Bool) (b : ℕ) where
  rom_allowed : (k : ℕ) (h : Bool) → k < 16 → may_flip x ≡ true → allowed (16 * x + k) (cond h 1 0) ≡ true
  unfolding allowed
  rom_allowed k true l e = rw (flips_loud x k l e)
  rom_allowed k false l e = refl

  kind_allowed : (p n : ℕ) → allowed p (kind_shown p n) ≡ true
  kind_allowed p n = cases (allowed p n) (λ e. rw e e) (λ e. rw e (zero_allowed p))

  found_turned : has_pages (chapter_behind x permission row named b) ≡ true → has_entries x row ≡ true
  unfolding has_pages chapter_behind
  found_turned e =
      let w : Place 16 (λ y. has_entries x row && not (eqb (row y) _)) = any_at 16 _ e in
      and_left (has_entries x row) _ w.passes

  turned_flips : has_entries x row ≡ true → may_flip x ≡ true
  unfolding has_entries
  turned_flips e = and_left (may_flip x) _ e

  found_range : has_entries x row ≡ true → is_under x (chapter_behind x permission row named b) || is_bare x (chapter_behind x permission row named b) ≡ true
  unfolding range_is chapter_behind
  found_range t =
      cases (hidden row named b)
      (λ e.
      or_left _ _ (range_of x (chapter_behind x permission row named b) 1 (λ k h l. rw (t, le-leb (first_k x) k l, e))))
      (λ e.
      or_right (is_under x (chapter_behind x permission row named b)) _
      (range_of x (chapter_behind x permission row named b) 0 (λ k h l. rw (t, le-leb (first_k x) k l, e))))

  found_kinds : (k : ℕ) → k < 16 → allowed (16 * x + k) ((chapter_behind x permission row named b).kind k) ≡ true
  unfolding chapter_behind
  found_kinds k h =
      cases (has_entries x row && leb (first_k x) k) (λ e. rw e (rom_allowed k (hidden row named b) h (turned_flips (and_left (has_entries x row) _ e))))
      (λ e. rw e (kind_allowed (16 * x + k) (permission k)))

  pub found_valid : ValidAt x (chapter_behind x permission row named b)
  found_valid =
      record {
        kinds = found_kinds;
        pages = λ e. turned_flips (found_turned e);
        range = λ e. found_range (found_turned e);
      }

pub behind_valid : (t : Tables) (named : ℕ → Bool) → Valid (behind t named)
behind_valid t named x h =
    found_valid x (λ k. get_or t.permissions (16 * x + k) 0) (λ y. get_or t.flips (16 * x + y) 0) named (base_behind t named x)
