-- What `lowest` names, and a loop that seeks it.
use Rattle.std.specs.Prelude.{ℕ, suc, ◌+◌, ◌≤◌, ◌-◌, ◌<◌, zero, Bool, true, false, ◌≡◌, eqb, ltb}
use Rattle.std.proofs.Common.{◌∙◌, ap, sym, arith, eqb-true, ltb-true, ltb-false, lt-ltb, le-ltb}
use Rattle.std.proofs.lemmas.Bool.{eqb-false}
use Rattle.basics.specs.Counts.{lowest_from, lowest, any}
use Rattle.basics.specs.Laws.Tests.{cases, same_test, true_is_not_false}
use Rattle.basics.specs.Laws.Counts.{any_of, Place, any_at}

-- one place, at any count: the definition opens here only, and never at 2,048
module _ (n p : ℕ) (f : ℕ → Bool) where
  from_hit : f p ≡ true → lowest_from (suc n) p f ≡ p
  unfolding lowest_from
  from_hit e = rw e

  from_miss : f p ≡ false → lowest_from (suc n) p f ≡ lowest_from n (p + 1) f
  unfolding lowest_from
  from_miss e = rw e

from_end : (n p : ℕ) (f : ℕ → Bool) → n ≡ 0 → p ≡ lowest_from n p f
unfolding lowest_from
from_end n p f e = rw e

-- places below p have been passed over
pub record Seeking (n : ℕ) (f : ℕ → Bool) (p : ℕ) : Type 0 where
  pub up : p ≤ n
  pub same : lowest_from (n - p) p f ≡ lowest n f

pub seek_none : (n : ℕ) (f : ℕ → Bool) → Seeking n f 0
seek_none n f = let e : n - 0 ≡ n = omega arith in record { up = omega arith; same = rw e }

module _ (n : ℕ) (f : ℕ → Bool) (p : ℕ) (c : Seeking n f p) where
  pub seek_end : n ≤ p → p ≡ lowest n f
  seek_end h = from_end (n - p) p f (omega arith) ∙ c.same

  here_on : p < n → lowest_from (suc (n - (p + 1))) p f ≡ lowest n f
  here_on h = let e : n - p ≡ suc (n - (p + 1)) = omega arith in ap (λ (k : ℕ). lowest_from k p f) (sym e) ∙ c.same

  pub seek_hit : p < n → f p ≡ true → p ≡ lowest n f
  seek_hit h e = sym (from_hit (n - (p + 1)) p f e) ∙ here_on h

  pub seek_more : p < n → f p ≡ false → Seeking n f (p + 1)
  seek_more h e = record { up = omega arith; same = sym (from_miss (n - (p + 1)) p f e) ∙ here_on h }

-- r is the lowest place from p on that passes
pub record First (f : ℕ → Bool) (p r : ℕ) : Type 0 where
  pub from : p ≤ r
  pub passes : f r ≡ true
  pub below : (q : ℕ) → p ≤ q → q < r → f q ≡ false

first_before : (f : ℕ → Bool) (p r : ℕ) → f p ≡ false → First f (p + 1) r → First f p r
first_before f p r e c =
    record {
      from = omega (arith, c.from);
      passes = c.passes;
      below =
          λ q l k.
          cases (eqb q p) (λ d. let z : q ≡ p = eqb-true q p d in rw z e) (λ d. c.below q (omega (arith, eqb-false q p d)) k);
    }

first_from : (n p : ℕ) (f : ℕ → Bool) → lowest_from n p f < p + n → First f p (lowest_from n p f)
unfolding lowest_from
first_from zero p f h = absurd (omega arith)
first_from (suc n) p f h =
    cases (f p)
    (λ e. rw e (record { from = omega arith; passes = e; below = λ q l k. absurd (omega arith) }))
    (λ e. rw e (first_before f p (lowest_from n (p + 1) f) e (first_from n (p + 1) f (omega (arith, rw e at h)))))

pub lowest_first : (n : ℕ) (f : ℕ → Bool) → lowest n f < n → First f 0 (lowest n f)
lowest_first n f h = first_from n 0 f (omega arith)

-- where none is named, none passes
from_none : (n p : ℕ) (f : ℕ → Bool) → p + n ≤ lowest_from n p f → (q : ℕ) → p ≤ q → q < p + n → f q ≡ false
unfolding lowest_from
from_none zero p f h q l k = absurd (omega arith)
from_none (suc n) p f h q l k =
    cases (f p)
    (λ e. let z : p + suc n ≤ p = rw e at h in absurd (omega arith))
    (λ e.
    let z : p + suc n ≤ lowest_from n (p + 1) f = rw e at h in
    cases (eqb q p) (λ d. let y : q ≡ p = eqb-true q p d in rw y e)
    (λ d. from_none n (p + 1) f (omega arith) q (omega (arith, eqb-false q p d)) (omega arith)))

pub lowest_none : (n : ℕ) (f : ℕ → Bool) → n ≤ lowest n f → (q : ℕ) → q < n → f q ≡ false
lowest_none n f h q k = from_none n 0 f (omega arith) q (omega arith) (omega arith)

-- one is named exactly where some place passes
pub lowest_any : (n : ℕ) (f : ℕ → Bool) → ltb (lowest n f) n ≡ any n f
lowest_any n f =
    same_test (ltb (lowest n f) n) (any n f)
    (λ e. let l : lowest n f < n = ltb-true _ _ e in any_of n f (lowest n f) l (lowest_first n f l).passes)
    (λ e.
    cases (ltb (lowest n f) n) (λ d. d)
    (λ d. let w : Place n f = any_at n f e in true_is_not_false w.passes (lowest_none n f (ltb-false _ _ d) w.at w.below)))

pub any_low : (n : ℕ) (f : ℕ → Bool) (r : ℕ) → r ≡ lowest n f → r < n → any n f ≡ true
any_low n f r e h = sym (lowest_any n f) ∙ lt-ltb (lowest n f) n (omega arith)

pub any_not : (n : ℕ) (f : ℕ → Bool) (r : ℕ) → r ≡ lowest n f → n ≤ r → any n f ≡ false
any_not n f r e h = sym (lowest_any n f) ∙ le-ltb (lowest n f) n (omega arith)
