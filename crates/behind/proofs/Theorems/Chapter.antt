-- What is known of one chapter, and that the chapter behind its part of an image is its own, with page 0 plain where it may be (W-213, Fact 1).
use Rattle.std.specs.Prelude.{◌%◌, ◌*◌, ◌+◌, ◌/◌, ◌<◌, ◌≤◌, suc, zero, ℕ, ◌≡◌, Bool, ◌&&◌, ◌||◌, leb, ltb}
use Rattle.std.proofs.Common.{◌∙◌, sym, ⊎_elim}
use Rattle.std.proofs.Math.Path.{refl}
use Rattle.std.proofs.Math.Bool.{cond, false, not, true}
use native.Mathlib.Omega.{arith}
use Rattle.std.proofs.Math.Dec.{eqb}
use borrow.Author.Tests.{eq-eqb, eqb-true, le-leb, le-ltb, leb-false, leb-true, lt-leb, ltb-false, ne_eqb}
use Rattle.basics.specs.Counts.{all, any}
use Rattle.basics.specs.Laws.Counts.{Place, all_at, all_of, any_nothing, any_of}
use Rattle.basics.specs.Laws.Tests.{and_false, and_left, and_right, and_true, cases, not-true, or_cases, or_left, or_right, true_is_not_false}
use Rattle.switches.specs.Flips.{first_k}
use Rattle.switches.specs.Laws.Flips.{first_small}
use Rattle.plan.specs.Image.{chapter_flip, chapter_permissions, holds_page, holds_plain, page_at, turns}
use Rattle.plan.specs.Plan.{Chapter, has_pages, has_plain, is_bare, is_under, range_is}
use Rattle.plan.specs.Valid.{ValidAt, may_flip}
use Rattle.behind.specs.Behind.{absent, chapter_behind, has_entries, hidden, kind_shown}
use Rattle.behind.specs.Laws.Counts.{count_all, not_all, not_any}
use Rattle.behind.specs.Laws.Star.{Same, full, holds_any, moved, star_at}

-- all of the flippable range has a kind
pub range_at : (x : ℕ) (c : Chapter) (n : ℕ) → range_is x c n ≡ true → (k : ℕ) → k < 16 → first_k x ≤ k → c.kind k ≡ n
unfolding range_is
range_at x c n e k h t =
    let g : ltb k (first_k x) || eqb (c.kind k) n ≡ true = all_at 16 _ e k h in
    eqb-true (c.kind k) n (rw (le-ltb k (first_k x) t) at g)

pub range_of : (x : ℕ) (c : Chapter) (n : ℕ) → ((k : ℕ) → k < 16 → first_k x ≤ k → c.kind k ≡ n) → range_is x c n ≡ true
unfolding range_is
range_of x c n h =
    all_of 16 (λ k. ltb k (first_k x) || eqb (c.kind k) n)
    (λ k l.
    cases (ltb k (first_k x)) (λ e. or_left _ _ e)
    (λ e. or_right (ltb k (first_k x)) _ (eq-eqb (c.kind k) n (h k l (ltb-false k (first_k x) e)))))

pub plain_of : (c : Chapter) (k : ℕ) → k < 16 → (c.kind k ≡ 0 → ⊥) → has_plain c ≡ true
unfolding has_plain
plain_of c k h e = any_of 16 (λ j. not (eqb (c.kind j) 0)) k h (rw (ne_eqb (c.kind k) 0 e))

pub is_zero : (n : ℕ) → not (eqb n 0) ≡ false → n ≡ 0
is_zero n e = cases (eqb n 0) (λ t. eqb-true n 0 t) (λ t. true_is_not_false (rw t) e)

pub plain_not : (c : Chapter) → has_plain c ≡ false → (k : ℕ) → k < 16 → c.kind k ≡ 0
unfolding has_plain
plain_not c e k h = is_zero (c.kind k) (not_any 16 (λ j. not (eqb (c.kind j) 0)) e k h)

pub has_pages_lem : (c : Chapter) (y : ℕ) → y < 16 → c.page y ≡ true → has_pages c ≡ true
unfolding has_pages
has_pages_lem c y h e = any_of 16 c.page y h e

pub paged_not : (c : Chapter) → has_pages c ≡ false → (y : ℕ) → y < 16 → c.page y ≡ false
unfolding has_pages
paged_not c e y h = not_any 16 c.page e y h

full_by : (c : Chapter) (e p : Bool) → all 16 c.page ≡ e → has_plain c ≡ p → full c ≡ e && not p
unfolding full
full_by c e p h g = rw (h, g)

not_full_plain : (c : Chapter) → has_plain c ≡ true → full c ≡ false
unfolding full
not_full_plain c p = and_false (all 16 c.page) (not (has_plain c)) (rw p)

pub record Full (c : Chapter) : Type 0 where
  pub pages : (y : ℕ) → y < 16 → c.page y ≡ true
  pub none : has_plain c ≡ false

pub full_is : (c : Chapter) → full c ≡ true → Full c
unfolding full
full_is c e =
    record {
      pages = all_at 16 c.page (and_left (all 16 c.page) _ e);
      none = not-true (has_plain c) (and_right (all 16 c.page) _ e);
    }

pub first_in : (x : ℕ) → first_k x ≤ 15
first_in x = omega (arith, first_small x)

-- the entries of a chapter with pages
entry_by_lem : (p u : Bool) (m n : ℕ) → 8 ≤ cond p (16 * m + 9) (cond u (16 * n + 9) 8)
entry_by_lem true u m n = omega arith
entry_by_lem false true m n = omega arith
entry_by_lem false false m n = omega arith

module _ (x : ℕ) (c : Chapter) (b : ℕ) (v : ValidAt x c) (permission row : ℕ → ℕ) (named : ℕ → Bool)
    (permissions : (k : ℕ) → k < 16 → permission k ≡ chapter_permissions x c b k) (rows : (y : ℕ) → y < 16 → row y ≡ chapter_flip x c b y)
    (names : has_pages c ≡ true → named (16 * b + 8) ≡ holds_any x c b (16 * b + 8)) where
  kind_low : (k : ℕ) → k < 16 → turns x c k ≡ false → kind_shown (16 * x + k) (permission k) ≡ c.kind k
  unfolding chapter_permissions
  kind_low k h f =
      let p : permission k ≡ c.kind k = permissions k h ∙ rw f in
      rw (p, v.kinds k h)

  -- no pages
  module _ (none : has_pages c ≡ false) where
    row_none : (y : ℕ) → y < 16 → row y ≡ 0
    unfolding chapter_flip
    row_none y h = rows y h ∙ rw none

    unturned : has_entries x row ≡ false
    unfolding has_entries
    unturned = and_false (may_flip x) _ (any_nothing 16 (λ y. not (eqb (row y) 0)) (λ y h. rw (row_none y h)))

    unpaged_same : Same (chapter_behind x permission row named b) c
    unfolding chapter_behind turns
    unpaged_same =
        record {
          kinds = λ k h. rw unturned (kind_low k h (rw none));
          pages = λ y h. rw unturned (sym (paged_not c none y h));
        }

  -- pages
  module _ (some-page : has_pages c ≡ true) where
    row_is : (y : ℕ) → y < 16 → row y ≡ cond (c.page y) (16 * page_at c b y + 9) (cond (is_under x c) (16 * b + 9) 8)
    unfolding chapter_flip
    row_is y h = rows y h ∙ rw some-page

    has_entries_lem : has_entries x row ≡ true
    unfolding has_entries
    has_entries_lem =
        let e : row 0 ≡ cond (c.page 0) (16 * page_at c b 0 + 9) (cond (is_under x c) (16 * b + 9) 8) = row_is 0 (omega arith) in
        let l : 8 ≤ row 0 = rw e (entry_by_lem (c.page 0) (is_under x c) (page_at c b 0) b) in
        and_true (may_flip x) _ (v.pages some-page) (any_of 16 (λ y. not (eqb (row y) 0)) 0 (omega arith) (rw (ne_eqb (row 0) 0 (omega arith))))

    paged_same : (d : Chapter) → ((k : ℕ) → k < 16 → first_k x ≤ k → cond (hidden row named b) 1 0 ≡ d.kind k) → ((k : ℕ) → k < first_k x → c.kind k ≡ d.kind k)
        → ((y : ℕ) → y < 16 → not (eqb (row y) (absent row b)) ≡ d.page y) → Same (chapter_behind x permission row named b) d
    unfolding chapter_behind turns
    paged_same d hi lo pg =
        record {
          kinds =
              λ k h.
              cases (leb (first_k x) k) (λ e. rw (has_entries_lem, e) (hi k h (leb-true (first_k x) k e)))
              (λ e. rw (has_entries_lem, e) (kind_low k h (rw (some-page, e)) ∙ lo k (leb-false (first_k x) k e)));
          pages = λ y h. rw has_entries_lem (pg y h);
        }

    name_plain : (c.kind 8 ≡ 0 → ⊥) → named (16 * b + 8) ≡ true
    unfolding holds_plain
    name_plain e =
        let q : (16 * b + 8) / 16 ≡ b = omega arith in
        let r : (16 * b + 8) % 16 ≡ 8 = omega arith in
        names some-page
        ∙ or_left (holds_plain c b (16 * b + 8)) (holds_page x c b (16 * b + 8)) (rw (q, r) (rw (eq-eqb b b refl, ne_eqb (c.kind 8) 0 e)))

    -- ROM under the pages
    module _ (rom : is_under x c ≡ true) where
      has_plain_lem : has_plain c ≡ true
      has_plain_lem = plain_of c 15 (omega arith) (λ e. omega (arith, range_at x c 1 rom 15 (omega arith) (first_in x)))

      rom_row : (y : ℕ) → y < 16 → row y ≡ cond (c.page y) (16 * page_at c b y + 9) (16 * b + 9)
      rom_row y h = row_is y h ∙ rw rom

      no_eight : any 16 (λ y. eqb (row y) 8) ≡ false
      no_eight = any_nothing 16 (λ y. eqb (row y) 8) (λ y h. ne_eqb (row y) 8 (λ e. not_eight (c.page y) (page_at c b y) (sym (rom_row y h) ∙ e)))
        where
          not_eight : (p : Bool) (m : ℕ) → cond p (16 * m + 9) (16 * b + 9) ≡ 8 → ⊥
          not_eight true m e = omega arith
          not_eight false m e = omega arith

      absent_is : absent row b ≡ 16 * b + 9
      unfolding absent
      absent_is = rw no_eight

      rom_hidden : hidden row named b ≡ true
      unfolding hidden
      rom_hidden =
          rw (absent_is, ne_eqb (16 * b + 9) 8 (omega arith), name_plain (λ e. omega (arith, range_at x c 1 rom 8 (omega arith) (first_small x))))

      page_told : (p : Bool) (m : ℕ) → b < m → not (eqb (cond p (16 * m + 9) (16 * b + 9)) (16 * b + 9)) ≡ p
      page_told true m h = rw (ne_eqb (16 * m + 9) (16 * b + 9) (omega arith))
      page_told false m h = rw (eq-eqb (16 * b + 9) (16 * b + 9) refl)

      past : (y : ℕ) → b < page_at c b y
      unfolding page_at
      past y = rw has_plain_lem (omega arith)

      rom_same : Same (chapter_behind x permission row named b) (star_at x c)
      rom_same =
          rw (not_full_plain c has_plain_lem)
          (paged_same c (λ k h t. rw (rom_hidden, range_at x c 1 rom k h t)) (λ k l. refl)
          (λ y h. rw (absent_is, rom_row y h) (page_told (c.page y) (page_at c b y) (past y))))

    -- none under the pages
    module _ (open-range : is_under x c ≡ false) where
      is_bare_lem : is_bare x c ≡ true
      is_bare_lem = ⊎_elim (λ e. true_is_not_false e open-range) (λ e. e) (or_cases (is_under x c) (is_bare x c) (v.range some-page))

      open_row : (y : ℕ) → y < 16 → row y ≡ cond (c.page y) (16 * page_at c b y + 9) 8
      open_row y h = row_is y h ∙ rw open-range

      -- and a page is not there
      module _ (few : all 16 c.page ≡ false) where
        eight : absent row b ≡ 8
        unfolding absent
        eight =
            let p : Place 16 (λ y. not (c.page y)) = not_all 16 c.page few in
            let e : row p.at ≡ 8 = open_row p.at p.below ∙ off (c.page p.at) (16 * page_at c b p.at + 9) p.passes in
            rw (any_of 16 (λ y. eqb (row y) 8) p.at p.below (eq-eqb (row p.at) 8 e))
          where
            off : (q : Bool) (m : ℕ) → not q ≡ true → cond q m 8 ≡ 8
            off true m e = true_is_not_false e refl
            off false m e = refl

        open_hidden : hidden row named b ≡ false
        unfolding hidden
        open_hidden = rw eight

        few_told : (p : Bool) (m : ℕ) → not (eqb (cond p (16 * m + 9) 8) 8) ≡ p
        few_told true m = rw (ne_eqb (16 * m + 9) 8 (omega arith))
        few_told false m = refl

        few_same : Same (chapter_behind x permission row named b) (star_at x c)
        few_same =
            rw (full_by c false (has_plain c) few refl)
            (paged_same c (λ k h t. rw (open_hidden, range_at x c 0 is_bare_lem k h t)) (λ k l. refl)
            (λ y h. rw (eight, open_row y h) (few_told (c.page y) (page_at c b y))))

      -- and all pages are there
      module _ (each-page : all 16 c.page ≡ true) where
        on : (y : ℕ) → y < 16 → c.page y ≡ true
        on y h = all_at 16 c.page each-page y h

        all_row : (y : ℕ) → y < 16 → row y ≡ 16 * page_at c b y + 9
        all_row y h = open_row y h ∙ rw (on y h)

        none_absent : absent row b ≡ 16 * b + 9
        unfolding absent
        none_absent =
            rw (any_nothing 16 (λ y. eqb (row y) 8) (λ y h. ne_eqb (row y) 8 (λ e. omega (arith, all_row y h))))

        hidden_by : hidden row named b ≡ named (16 * b + 8)
        unfolding hidden
        hidden_by = rw (none_absent, ne_eqb (16 * b + 9) 8 (omega arith))

        page_at_lem : (y : ℕ) → y < 16 → page_at c b y ≡ b + cond (has_plain c) 1 0 + y
        unfolding page_at
        page_at_lem y h = rw (count_all c.page y (λ i l. on i (omega arith)))

        half : (16 * b + 8) / 16 ≡ b
        half = omega arith

        half_k : (16 * b + 8) % 16 ≡ 8
        half_k = omega arith

        -- plain words elsewhere in the chapter
        module _ (other : has_plain c ≡ true) where
          not_named : named (16 * b + 8) ≡ false
          unfolding holds_plain holds_page
          not_named =
              let k : c.kind 8 ≡ 0 = range_at x c 0 is_bare_lem 8 (omega arith) (first_small x) in
              let z : any 16 (λ y. c.page y && eqb b (page_at c b y)) ≡ false =
              any_nothing 16 (λ y. c.page y && eqb b (page_at c b y))
              (λ y h. and_false (c.page y) _ (let e : page_at c b y ≡ b + 1 + y = page_at_lem y h ∙ rw other in ne_eqb b (page_at c b y) (omega arith))) in
              names some-page ∙ rw (half, half_k) (rw (k, eq-eqb b b refl, z) (and_false (leb (first_k x) 8) false refl))

          other_same : Same (chapter_behind x permission row named b) (star_at x c)
          other_same =
              rw (not_full_plain c other)
              (paged_same c (λ k h t. rw (hidden_by, not_named, range_at x c 0 is_bare_lem k h t)) (λ k l. refl)
              (λ y h.
              let e : page_at c b y ≡ b + 1 + y = page_at_lem y h ∙ rw other in
              rw (none_absent, all_row y h, ne_eqb (16 * page_at c b y + 9) (16 * b + 9) (omega arith)) (sym (on y h))))

        module _ (no_plain : has_plain c ≡ false) where
          is_named : named (16 * b + 8) ≡ true
          unfolding holds_page
          is_named =
              let e : page_at c b 0 ≡ b = page_at_lem 0 (omega arith) ∙ rw no_plain (omega arith) in
              let s : any 16 (λ y. c.page y && eqb b (page_at c b y)) ≡ true =
              any_of 16 (λ y. c.page y && eqb b (page_at c b y)) 0 (omega arith) (and_true _ _ (on 0 (omega arith)) (eq-eqb b (page_at c b 0) (sym e))) in
              names some-page ∙ or_right (holds_plain c b (16 * b + 8)) _ (rw (half, half_k) (rw (le-leb (first_k x) 8 (first_small x), s)))

          full_same : Same (chapter_behind x permission row named b) (star_at x c)
          full_same =
              rw (full_by c true false each-page no_plain)
              (paged_same (moved x) (λ k h t. rw (hidden_by, is_named, le-leb (first_k x) k t))
              (λ k l. rw (lt-leb (first_k x) k l) (plain_not c no_plain k (omega (arith, first_small x))))
              (λ y h.
              let e : page_at c b y ≡ b + y = page_at_lem y h ∙ rw no_plain (omega arith) in
              rw (none_absent, all_row y h, e) (told y)))
            where
              told : (y : ℕ) → not (eqb (16 * (b + y) + 9) (16 * b + 9)) ≡ not (eqb y 0)
              told zero = rw (eq-eqb (16 * (b + 0) + 9) (16 * b + 9) (omega arith))
              told (suc y) = rw (ne_eqb (16 * (b + suc y) + 9) (16 * b + 9) (omega arith), ne_eqb (suc y) 0 (omega arith))

  not_full_unpaged : has_pages c ≡ false → full c ≡ false
  unfolding full
  not_full_unpaged e =
      cases (all 16 c.page) (λ a. true_is_not_false (all_at 16 c.page a 0 (omega arith)) (paged_not c e 0 (omega arith))) (λ a. rw a)

  -- the plan behind the image of a chapter
  pub found_same : Same (chapter_behind x permission row named b) (star_at x c)
  found_same =
      cases (has_pages c)
      (λ s.
      cases (is_under x c) (λ u. rom_same s u)
      (λ u.
      cases (all 16 c.page) (λ a. cases (has_plain c) (λ p. other_same s u a p) (λ p. full_same s u a p))
      (λ a. few_same s u a)))
      (λ s. rw (not_full_unpaged s) (unpaged_same s))
