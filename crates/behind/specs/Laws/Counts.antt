-- Counts and tests of places: all that pass, a place that does not, and the one that does.
use Rattle.std.specs.Prelude.{◌<◌, suc, zero, ℕ, ◌≡◌, refl, Bool, false, not, true}
use Rattle.std.proofs.Common.{arith}
use Rattle.basics.specs.Counts.{all, any, count}
use Rattle.basics.specs.Laws.Counts.{Place, all_of, any_at, any_of}
use Rattle.basics.specs.Laws.Tests.{cases, not-false, same_test, true_is_not_false}

pub count_all : (f : ℕ → Bool) (n : ℕ) → ((i : ℕ) → i < n → f i ≡ true) → count f n ≡ n
unfolding count
count_all f zero h = refl
count_all f (suc n) h = rw (h n (omega arith), count_all f n (λ i l. h i (omega arith)))

-- no place passes; a place fails
pub not_any : (n : ℕ) (f : ℕ → Bool) → any n f ≡ false → (i : ℕ) → i < n → f i ≡ false
not_any n f e i h = cases (f i) (λ t. true_is_not_false (any_of n f i h t) e) (λ t. t)

pub not_all : (n : ℕ) (f : ℕ → Bool) → all n f ≡ false → Place n (λ i. not (f i))
not_all n f e =
    cases (any n (λ i. not (f i))) (λ t. any_at n (λ i. not (f i)) t)
    (λ t. true_is_not_false (all_of n f (λ i l. not-false (f i) (not_any n (λ j. not (f j)) t i l))) e)

-- one place alone can pass
pub any_one : (n : ℕ) (f : ℕ → Bool) (i : ℕ) → i < n → ((j : ℕ) → j < n → f j ≡ true → j ≡ i) → any n f ≡ f i
any_one n f i h one =
    same_test (any n f) (f i)
    (λ e. let p : Place n f = any_at n f e in let q : p.at ≡ i = one p.at p.below p.passes in rw q at p.passes)
    (λ e. any_of n f i h e)
