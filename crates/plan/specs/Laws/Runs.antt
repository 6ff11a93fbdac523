-- Laying a kind where there was none: a start more at most, where the kind is begun (W-213, Lay lemma).
use Rattle.std.specs.Prelude.{ℕ, ◌-◌, ◌≡◌, true, not, ◌⊎◌, eqb}
use Rattle.std.proofs.Common.{sym, ◌∙◌, inl, inr, ⊎_elim, ne_eqb, eqb-true}
use Rattle.std.proofs.lemmas.Bool.{eqb-false}
use Rattle.basics.specs.Laws.Tests.{cases, and_left, and_right, and_true, or_left, or_right, or_cases, not-true}
use Rattle.plan.specs.Fewest.{starts}

pub record Starts (kind : ℕ → ℕ) (p : ℕ) : Type 0 where
  pub some : kind p ≡ 0 → ⊥
  pub edge : (p ≡ 0 → ⊥) → kind (p - 1) ≡ kind p → ⊥

pub starts_is : (kind : ℕ → ℕ) (p : ℕ) → starts kind p ≡ true → Starts kind p
unfolding starts
starts_is kind p e =
    record {
      some = eqb-false (kind p) 0 (not-true (eqb (kind p) 0) (and_left _ _ e));
      edge =
          λ h q.
          ⊎_elim (λ z. h (eqb-true p 0 z)) (λ z. eqb-false (kind (p - 1)) (kind p) (not-true (eqb (kind (p - 1)) (kind p)) z) q)
          (or_cases (eqb p 0) _ (and_right (not (eqb (kind p) 0)) _ e));
    }

pub starts_of : (kind : ℕ → ℕ) (p : ℕ) → Starts kind p → starts kind p ≡ true
unfolding starts
starts_of kind p s =
    and_true (not (eqb (kind p) 0)) _ (rw (ne_eqb (kind p) 0 s.some))
    (cases (eqb p 0) (λ z. or_left _ _ z) (λ z. or_right (eqb p 0) _ (rw (ne_eqb (kind (p - 1)) (kind p) (s.edge (eqb-false p 0 z))))))

-- f has the kinds of g with a kind laid: p keeps its kind; or there was none, and a kind begins here or goes on
pub data Laid (f g : ℕ → ℕ) (First : ℕ → Type 0) (p : ℕ) : Type 0 where
  kept : f p ≡ g p → Laid f g First p
  begun : g p ≡ 0 → First p → Laid f g First p
  more : g p ≡ 0 → (p ≡ 0 → ⊥) → f (p - 1) ≡ f p → Laid f g First p

module _ {f g : ℕ → ℕ} {First : ℕ → Type 0} (laid : (p : ℕ) → Laid f g First p) (p : ℕ) where
  module _ (s : Starts f p) where
    before : g (p - 1) ≡ g p → (g p ≡ 0 → ⊥) → Laid f g First (p - 1) → f (p - 1) ≡ g p
    before e n (kept q) = q ∙ e
    before e n (begun z h) = absurd (n (sym e ∙ z))
    before e n (more z h q) = absurd (n (sym e ∙ z))

    start : Laid f g First p → (Starts g p) ⊎ (First p)
    start (kept q) =
        inl
        (record {
          some = λ z. s.some (q ∙ z);
          edge = λ h e. s.edge h (before e (λ z. s.some (q ∙ z)) (laid (p - 1)) ∙ sym q);
        })
    start (begun z h) = inr h
    start (more z h q) = absurd (s.edge h q)

  pub laid_starts : starts f p ≡ true → (starts g p ≡ true) ⊎ (First p)
  laid_starts e = ⊎_elim (λ s. inl (starts_of g p s)) (λ h. inr h) (start (starts_is f p e) (laid p))
