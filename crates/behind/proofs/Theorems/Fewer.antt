-- The plan with page 0 made plain, where it may be, takes no more lines (W-213, Fact 3): page 0 is one line less, and its words lay one kind
-- where there was none, which gives at most one start more.
use Rattle.std.specs.Prelude.{◌%◌, ◌*◌, ◌+◌, ◌-◌, ◌/◌, ◌<◌, ◌≤◌, suc, zero, ℕ, ◌≡◌, false, true, ◌⊎◌, eqb, leb}
use Rattle.std.proofs.Common.{◌∙◌, ap₂, sym, inl, inr, ⊎_elim, arith, eqb-true, le-leb, leb-true}
use Rattle.std.proofs.lemmas.Bool.{eqb-false}
use Rattle.basics.specs.Counts.{count}
use Rattle.basics.specs.Laws.Counts.{count_add, count_but, count_imp, count_most, count_same}
use Rattle.basics.specs.Laws.Tests.{cases, true_is_not_false}
use Rattle.switches.specs.Flips.{first_k}
use Rattle.plan.specs.Fewest.{fewest, starts}
use Rattle.plan.specs.Laws.Runs.{Laid, begun, kept, laid_starts, more}
use Rattle.plan.specs.Plan.{Plan, has_page, kinds}
use Rattle.behind.proofs.Theorems.Alike.{moved_count}
use Rattle.behind.proofs.Theorems.Chapter.{Full, full_is, plain_not}
use Rattle.behind.specs.Laws.Counts.{count_all}
use Rattle.behind.specs.Laws.Star.{full, star}

-- a place by its chapter
pub kind_at_lem : (r : Plan) (p x k : ℕ) → p / 16 ≡ x → p % 16 ≡ k → kinds r p ≡ (r x).kind k
kind_at_lem r p x k e f = ap₂ (λ (a b : ℕ). (r a).kind b) e f

pub page_at_lem : (r : Plan) (n x y : ℕ) → n / 16 ≡ x → n % 16 ≡ y → has_page r n ≡ (r x).page y
page_at_lem r n x y e f = ap₂ (λ (a b : ℕ). (r a).page b) e f

-- page 0 made plain in the chapters that are full
module _ (q : Plan) where
  abbrev FirstOf : ℕ → Type 0
  FirstOf p = (full (q (p / 16)) ≡ true) × (p % 16 ≡ first_k (p / 16))

  star_laid : (p : ℕ) → Laid (kinds (star q)) (kinds q) FirstOf p
  star_laid p = cases (full (q (p / 16))) (λ e. changed e (full_is (q (p / 16)) e)) (λ e. kept (same e))
    where
      same : full (q (p / 16)) ≡ false → (star q (p / 16)).kind (p % 16) ≡ (q (p / 16)).kind (p % 16)
      same e = rw e

      changed : full (q (p / 16)) ≡ true → Full (q (p / 16)) → Laid (kinds (star q)) (kinds q) FirstOf p
      changed e f =
          let z : kinds q p ≡ 0 = plain_not (q (p / 16)) f.none (p % 16) (omega arith) in
          cases (eqb (p % 16) (first_k (p / 16))) (λ k. begun z (e, eqb-true (p % 16) (first_k (p / 16)) k))
          (λ k.
          let d : p % 16 ≡ first_k (p / 16) → ⊥ = eqb-false (p % 16) (first_k (p / 16)) k in
          cases (leb (first_k (p / 16)) (p % 16))
          (λ l.
          let m : first_k (p / 16) ≤ p % 16 = leb-true (first_k (p / 16)) (p % 16) l in
          let n : first_k (p / 16) < p % 16 = omega arith in
          let u : (star q (p / 16)).kind (p % 16 - 1) ≡ 1 = rw (e, le-leb (first_k (p / 16)) (p % 16 - 1) (omega arith)) in
          let w : (star q (p / 16)).kind (p % 16) ≡ 1 = rw (e, l) in
          more z (λ r. omega arith) (kind_at_lem (star q) (p - 1) (p / 16) (p % 16 - 1) (omega arith) (omega arith) ∙ u ∙ sym w))
          (λ l. let u : (star q (p / 16)).kind (p % 16) ≡ 0 = rw (e, l) in kept (u ∙ sym z)))

  star_starts : (p : ℕ) → starts (kinds (star q)) p ≡ true → (starts (kinds q) p ≡ true) ⊎ (FirstOf p)
  star_starts p e = laid_starts star_laid p e

  module _ (x : ℕ) where
    chapter_of_lem : (k : ℕ) → k < 16 → (16 * x + k) / 16 ≡ x
    chapter_of_lem k h = omega arith

    place_of : (k : ℕ) → k < 16 → (16 * x + k) % 16 ≡ k
    place_of k h = omega arith

    pub pages_in : (r : Plan) → count (λ y. has_page r (16 * x + y)) 16 ≡ count (r x).page 16
    pages_in r = count_same (λ y. has_page r (16 * x + y)) (r x).page 16 (λ y h. page_at_lem r (16 * x + y) x y (chapter_of_lem y h) (place_of y h))

    abbrev starts_in : Plan → ℕ
    starts_in r = count (λ k. starts (kinds r) (16 * x + k)) 16

    kept_in : full (q x) ≡ false → starts_in (star q) ≤ starts_in q
    kept_in e =
        count_imp (λ k. starts (kinds (star q)) (16 * x + k)) (λ k. starts (kinds q) (16 * x + k)) 16
        (λ k h t. ⊎_elim (λ s. s) (λ f. true_is_not_false (rw (chapter_of_lem k h) at f.0) e) (star_starts (16 * x + k) t))

    one_in : starts_in (star q) ≤ starts_in q + 1
    one_in =
        count_but (λ k. starts (kinds (star q)) (16 * x + k)) (λ k. starts (kinds q) (16 * x + k)) (first_k x) 16
        (λ k h t. ⊎_elim (λ s. inl s) (λ f. inr (rw (chapter_of_lem k h, place_of k h) at f.1)) (star_starts (16 * x + k) t))

    fewer_in : starts_in (star q) + count (star q x).page 16 ≤ starts_in q + count (q x).page 16
    fewer_in =
        cases (full (q x))
        (λ e.
        let m : count (star q x).page 16 ≡ 15 = rw e (moved_count x 15) in
        let n : count (q x).page 16 ≡ 16 = count_all (q x).page 16 (full_is (q x) e).pages in
        omega (arith, one_in))
        (λ e. let m : count (star q x).page 16 ≡ count (q x).page 16 = rw e in omega (arith, kept_in e))

  fewer_to : (n : ℕ) →
      count (starts (kinds (star q))) (16 * n) + count (has_page (star q)) (16 * n) ≤ count (starts (kinds q)) (16 * n) + count (has_page q) (16 * n)
  fewer_to zero = omega (arith, count_most (starts (kinds (star q))) 0, count_most (has_page (star q)) 0)
  fewer_to (suc n) =
      let e : 16 * suc n ≡ 16 * n + 16 = omega arith in
      rw e
      (omega (
        arith,
        fewer_to n,
        fewer_in n,
        count_add (starts (kinds (star q))) (16 * n) 16,
        count_add (starts (kinds q)) (16 * n) 16,
        count_add (has_page (star q)) (16 * n) 16,
        count_add (has_page q) (16 * n) 16,
        pages_in n (star q),
        pages_in n q,
      ))

  -- no more fewest
  pub star_fewer : fewest (star q) ≤ fewest q
  unfolding fewest
  star_fewer = fewer_to 16
