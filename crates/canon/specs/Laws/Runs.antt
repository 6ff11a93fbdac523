-- Runs of paragraphs of one kind: how far one reaches, and where it starts.
use Rattle.std.specs.Prelude.{◌+◌, ◌<◌, ◌≤◌, suc, zero, ℕ, ◌≡◌, refl, ◌&&◌, eqb}
use Rattle.std.proofs.Common.{◌∙◌, ap, sym, arith, eq-eqb, eqb-true}
use Rattle.std.proofs.lemmas.Bool.{eqb-false}
use Rattle.basics.specs.Laws.Tests.{and_left, and_right, cases}
use Rattle.plan.specs.Laws.Runs.{Starts}
use Rattle.canon.specs.Canonical.{reach}

pub reach_most : (kind : ℕ → ℕ) (p n : ℕ) → reach kind p n ≤ n
unfolding reach
reach_most kind p zero = omega arith
reach_most kind p (suc n) =
    cases (eqb (reach kind p n) n && eqb (kind (p + n)) (kind p)) (λ e. rw e (omega arith)) (λ e. rw e (omega (arith, reach_most kind p n)))

pub reach_same : (kind : ℕ → ℕ) (p n i : ℕ) → i < reach kind p n → kind (p + i) ≡ kind p
unfolding reach
reach_same kind p zero i h = absurd (omega arith)
reach_same kind p (suc n) i h =
    cases (eqb (reach kind p n) n && eqb (kind (p + n)) (kind p))
    (λ e.
    let a : reach kind p n ≡ n = eqb-true (reach kind p n) n (and_left _ _ e) in
    let b : kind (p + n) ≡ kind p = eqb-true (kind (p + n)) (kind p) (and_right (eqb (reach kind p n) n) _ e) in
    let l : i < suc n = rw e at h in
    cases (eqb i n) (λ z. ap (λ (j : ℕ). kind (p + j)) (eqb-true i n z) ∙ b)
    (λ z. reach_same kind p n i (omega (arith, eqb-false i n z))))
    (λ e. reach_same kind p n i (rw e at h))

pub reach_far : (kind : ℕ → ℕ) (p n m : ℕ) → m ≤ n → ((i : ℕ) → i < m → kind (p + i) ≡ kind p) → m ≤ reach kind p n
unfolding reach
reach_far kind p zero m h same = omega arith
reach_far kind p (suc n) m h same =
    cases (eqb m (suc n))
    (λ z.
    let e : m ≡ suc n = eqb-true m (suc n) z in
    let a : n ≤ reach kind p n = reach_far kind p n n (omega arith) (λ i l. same i (omega arith)) in
    rw (eq-eqb (reach kind p n) n (omega (arith, reach_most kind p n)), eq-eqb (kind (p + n)) (kind p) (same n (omega arith))) (omega arith))
    (λ z.
    let a : m ≤ reach kind p n = reach_far kind p n m (omega (arith, eqb-false m (suc n) z)) same in
    cases (eqb (reach kind p n) n && eqb (kind (p + n)) (kind p)) (λ e. rw e (omega arith)) (λ e. rw e a))

-- where the run of p starts
pub record Run (kind : ℕ → ℕ) (p : ℕ) : Type 0 where
  pub at : ℕ
  pub below : at ≤ p
  pub start : Starts kind at
  pub same : (j : ℕ) → at ≤ j → j ≤ p → kind j ≡ kind at

pub run_of : (kind : ℕ → ℕ) (p : ℕ) → (kind p ≡ 0 → ⊥) → Run kind p
run_of kind zero h =
    record {
      at = zero;
      below = omega arith;
      start = record { some = h; edge = λ z. absurd (z refl) };
      same = λ j a b. ap kind (omega arith);
    }
run_of kind (suc p) h =
    cases (eqb (kind p) (kind (suc p)))
    (λ e.
    let z : kind p ≡ kind (suc p) = eqb-true (kind p) (kind (suc p)) e in
    let r : Run kind p = run_of kind p (λ w. h (sym z ∙ w)) in
    record {
      at = r.at;
      below = omega (arith, r.below);
      start = r.start;
      same =
          λ j a b.
          cases (eqb j (suc p)) (λ q. ap kind (eqb-true j (suc p) q) ∙ sym z ∙ r.same p r.below (omega arith))
          (λ q. r.same j a (omega (arith, eqb-false j (suc p) q)));
    })
    (λ e.
    record {
      at = suc p;
      below = omega arith;
      start = record { some = h; edge = λ w z. eqb-false (kind p) (kind (suc p)) e (ap kind (omega arith) ∙ z) };
      same = λ j a b. ap kind (omega arith);
    })
