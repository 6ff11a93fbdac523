-- How many Locutus pages a plan can need: one for each of its lines and eleven more. Every chapter with plain paragraphs has the start
-- of a run, unless a run enters it from the chapter below; no run enters chapters 0 to 4, which are or lie above silent ones.
use Prim.Native.Nat.{ℕ, zero, suc, ◌+◌, ◌*◌, ◌/◌, ◌-◌, ◌≤◌, ◌<◌}
use Rattle.std.specs.Prelude.{◌≡◌, List, Bool, true, false, cond, ◌&&◌, ◌||◌, ◌⊎◌, length, ltb, eqb}
use Rattle.std.proofs.Math.Path.{refl}
use Rattle.std.proofs.Common.{sym, ap, ap₂, ◌∙◌, inl, inr, arith}
use Rattle.std.proofs.Math.Bool.{not}
use Rattle.std.proofs.Math.Logic.{⊎_elim}
use Rattle.std.proofs.Math.Dec.{leb}
use borrow.Author.Tests.{eqb-true, eqb-false, leb-false}
use Rattle.basics.specs.Counts.{any, count}
use Rattle.basics.specs.Laws.Counts.{any_of, any_at, Place, count_add, count_same, count_imp, count_or, count_more, count_most, count_last}
use Rattle.basics.specs.Laws.Tests.{cases, true_is_not_false, not-true, or_left, or_right, or_cases, and_left, or_false_left, or_false_right}
use Rattle.places.specs.Limits.{page_limit, page_size}
use Rattle.cart.specs.Reads.{silent}
use Rattle.lines.specs.declared.Line.{Line}
use Rattle.rules.specs.Laws.Rules.{Good}
use Rattle.layout.specs.Layout.{pages, needed}
use Rattle.plan.specs.Plan.{Plan, kinds, has_page, has_plain}
use Rattle.plan.specs.Valid.{Valid, quiet, allowed, is_ram_kind}
use Rattle.plan.specs.Image.{size, base, pages_of}
use Rattle.plan.specs.Fewest.{starts, fewest}
use Rattle.plan.specs.OfLines.{plan_of}
use Rattle.plan.specs.Laws.Runs.{starts_of}
use Rattle.plan.proofs.Theorems.Tables.{pages_is}
use Rattle.plan.proofs.Theorems.Valid.{plan_valid}
use Rattle.plan.proofs.Theorems.Fewest.{plan_fewest}

-- a paragraph that may have a kind is in none of the silent chapters
pub record Loud (p : ℕ) : Type 0 where
  pub one : p / 16 ≡ 1 → ⊥
  pub three : p / 16 ≡ 3 → ⊥

loud_of : (p : ℕ) → quiet p ≡ false → Loud p
unfolding quiet silent
loud_of p e =
    let a : 256 * p / 0x1000 ≡ p / 16 = omega arith in
    record {
      one = λ q. eqb-false (256 * p / 0x1000) 1 (or_false_right (ltb (256 * p) 0x500) _ (or_false_left _ _ e)) (a ∙ q);
      three = λ q. eqb-false (256 * p / 0x1000) 3 (or_false_right (ltb (256 * p) 0x500 || eqb (256 * p / 0x1000) 1) _ e) (a ∙ q);
    }

loud : (p n : ℕ) → allowed p n ≡ true → (n ≡ 0 → ⊥) → Loud p
unfolding allowed
loud p n e z =
    ⊎_elim (λ q. absurd (z (eqb-true n 0 q))) (λ q. loud_of p (not-true (quiet p) (and_left (not (quiet p)) _ q)))
    (or_cases (eqb n 0) (not (quiet p) && (eqb n 1 || is_ram_kind n)) e)

none_low : (x : ℕ) → x < 5 → (x ≡ 0 → ⊥) → (x ≡ 1 → ⊥) → (x ≡ 2 → ⊥) → (x ≡ 3 → ⊥) → (x ≡ 4 → ⊥) → ⊥
none_low x h none one two three four = omega arith

module _ (q : Plan) where
  -- a place by its chapter
  page_in_lem : (x y : ℕ) → y < 16 → has_page q (16 * x + y) ≡ (q x).page y
  page_in_lem x y h = ap₂ (λ (a b : ℕ). (q a).page b) (omega arith) (omega arith)

  kind_in_lem : (x k : ℕ) → k < 16 → kinds q (16 * x + k) ≡ (q x).kind k
  kind_in_lem x k h = ap₂ (λ (a b : ℕ). (q a).kind b) (omega arith) (omega arith)

  -- the pages are one for each chapter with plain paragraphs, and the plan's pages
  pages_in : (n : ℕ) → count (has_page q) (16 * suc n) ≡ count (has_page q) (16 * n) + count (q n).page 16
  pages_in n =
      let e : 16 * suc n ≡ 16 * n + 16 = omega arith in
      ap (count (has_page q)) e ∙ count_add (has_page q) (16 * n) 16
      ∙ ap (λ (m : ℕ). count (has_page q) (16 * n) + m) (count_same (λ y. has_page q (16 * n + y)) (q n).page 16 (λ y h. page_in_lem n y h))

  base_count : (n : ℕ) → base q n ≡ count (λ x. has_plain (q x)) n + count (has_page q) (16 * n)
  unfolding base size
  base_count zero = omega (arith, count_most (has_page q) (16 * 0), count_most (λ x. has_plain (q x)) 0)
  base_count (suc n) = rw (base_count n, pages_in n) (omega (arith, count_last (λ x. has_plain (q x)) n))

  -- a run that is in a chapter starts there, or has entered it
  abbrev starts_in : ℕ → Bool
  starts_in x = any 16 (λ k. starts (kinds q) (16 * x + k))

  abbrev Entered : ℕ → Type 0
  Entered x = (x ≡ 0 → ⊥) × (kinds q (16 * x - 1) ≡ 0 → ⊥)

  pub record GoesOn (p : ℕ) : Type 0 where
    pub above : p ≡ 0 → ⊥
    pub same : kinds q p ≡ kinds q (p - 1)

  goes_on : (p : ℕ) → (kinds q p ≡ 0 → ⊥) → starts (kinds q) p ≡ false → GoesOn p
  goes_on p n e =
      cases (eqb p 0)
      (λ z. true_is_not_false (starts_of (kinds q) p (record { some = n; edge = λ w. absurd (w (eqb-true p 0 z)) })) e)
      (λ z.
      cases (eqb (kinds q (p - 1)) (kinds q p)) (λ s. record { above = eqb-false p 0 z; same = sym (eqb-true (kinds q (p - 1)) (kinds q p) s) })
      (λ s. true_is_not_false (starts_of (kinds q) p (record { some = n; edge = λ w. eqb-false (kinds q (p - 1)) (kinds q p) s })) e))

  run_back : (x k : ℕ) → k < 16 → (kinds q (16 * x + k) ≡ 0 → ⊥) → (starts_in x ≡ true) ⊎ (Entered x)
  run_back x zero h n =
      cases (starts (kinds q) (16 * x + 0)) (λ e. inl (any_of 16 (λ j. starts (kinds q) (16 * x + j)) 0 h e))
      (λ e.
      let g : GoesOn (16 * x + 0) = goes_on (16 * x + 0) n e in
      let a : 16 * x + 0 - 1 ≡ 16 * x - 1 = omega arith in
      inr ((λ z. g.above (omega arith)), (λ z. n (g.same ∙ ap (λ (p : ℕ). kinds q p) a ∙ z))))
  run_back x (suc j) h n =
      cases (starts (kinds q) (16 * x + suc j)) (λ e. inl (any_of 16 (λ i. starts (kinds q) (16 * x + i)) (suc j) h e))
      (λ e.
      let g : GoesOn (16 * x + suc j) = goes_on (16 * x + suc j) n e in
      let a : 16 * x + suc j - 1 ≡ 16 * x + j = omega arith in
      run_back x j (omega arith) (λ z. n (g.same ∙ ap (λ (p : ℕ). kinds q p) a ∙ z)))

  -- as many chapters with starts as starts, at most
  one_in : (x : ℕ) → cond (starts_in x) 1 0 ≤ count (λ k. starts (kinds q) (16 * x + k)) 16
  one_in x =
      cases (starts_in x)
      (λ e.
      let w : Place 16 (λ k. starts (kinds q) (16 * x + k)) = any_at 16 _ e in
      rw e (omega (arith, count_more (λ k. starts (kinds q) (16 * x + k)) w.at 16 w.passes w.below)))
      (λ e. rw e (omega arith))

  starts_few : (n : ℕ) → count starts_in n ≤ count (starts (kinds q)) (16 * n)
  starts_few zero = omega (arith, count_most starts_in 0)
  starts_few (suc n) =
      let e : 16 * suc n ≡ 16 * n + 16 = omega arith in
      rw e (omega (arith, starts_few n, count_last starts_in n, count_add (starts (kinds q)) (16 * n) 16, one_in n))

  module _ (valid : Valid q) where
    loud_in : (x k : ℕ) → x < 16 → k < 16 → (kinds q (16 * x + k) ≡ 0 → ⊥) → Loud (16 * x + k)
    loud_in x k h l n = loud (16 * x + k) ((q x).kind k) ((valid x h).kinds k l) (λ z. n (kind_in_lem x k l ∙ z))

    low : (x k : ℕ) → x < 5 → k < 16 → (kinds q (16 * x + k) ≡ 0 → ⊥) → Entered x → ⊥
    low x k h l n s =
        let e : 16 * x - 1 ≡ 16 * (x - 1) + 15 = omega (arith, s.0) in
        let a : Loud (16 * x + k) = loud_in x k (omega arith) l n in
        let b : Loud (16 * (x - 1) + 15) = loud_in (x - 1) 15 (omega arith) (omega arith) (λ z. s.1 (ap (λ (p : ℕ). kinds q p) e ∙ z)) in
        let one : x ≡ 1 → ⊥ = λ z. a.one (omega arith) in
        let three : x ≡ 3 → ⊥ = λ z. a.three (omega arith) in
        let two : x ≡ 2 → ⊥ = λ z. b.one (omega arith) in
        let four : x ≡ 4 → ⊥ = λ z. b.three (omega arith) in
        none_low x h s.0 one two three four

    start_or_high : (x : ℕ) → x < 16 → has_plain (q x) ≡ true → starts_in x || leb 5 x ≡ true
    unfolding has_plain
    start_or_high x h e =
        let w : Place 16 (λ k. not (eqb ((q x).kind k) 0)) = any_at 16 _ e in
        let n : kinds q (16 * x + w.at) ≡ 0 → ⊥ =
        λ z. eqb-false ((q x).kind w.at) 0 (not-true _ w.passes) (sym (kind_in_lem x w.at w.below) ∙ z) in
        cases (leb 5 x) (λ t. or_right (starts_in x) _ t)
        (λ t.
        ⊎_elim (λ s. or_left _ _ s) (λ s. absurd (low x w.at (leb-false 5 x t) w.below n s)) (run_back x w.at w.below n))

    eleven : count (leb 5) 16 ≡ 11
    unfolding count
    eleven = refl

    pub plan_pages : pages_of q ≤ fewest q + 11
    unfolding fewest
    plan_pages =
        let a : base q 16 ≡ count (λ x. has_plain (q x)) 16 + count (has_page q) 256 = base_count 16 in
        let b : count starts_in 16 ≤ count (starts (kinds q)) 256 = starts_few 16 in
        omega (arith, count_imp (λ x. has_plain (q x)) (λ x. starts_in x || leb 5 x) 16 start_or_high, count_or starts_in (leb 5) 16, eleven)

module _ {lines : List Line} (g : Good lines) where
  pub few_pages : pages lines ≤ length lines + 11
  few_pages = omega (arith, pages_is lines, plan_pages (plan_of lines) (plan_valid g), plan_fewest g)

  -- the most pages that accepted lines can need, and the most words (02, W-210)
  pub pages_limit : pages lines ≤ page_limit
  pages_limit = omega (arith, few_pages, g.few)

  pub needed_limit : needed lines ≤ page_size * page_limit
  needed_limit = omega (arith, pages_limit)
