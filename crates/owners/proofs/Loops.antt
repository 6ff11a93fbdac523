-- The lesser of two numbers; the least of several, one by one; and that of a table's.
use Prim.Native.Nat.{ℕ, ◌≤◌, ◌<◌, ◌+◌, min}
use mathlib.Core.Path.{◌≡◌, refl, ◌∙◌}
use native.Mathlib.Omega.{arith}
use native.Mathlib.Numerals.{add-one}
use lib.Dec.{ltb}
use borrow.Author.Tests.{ne_eqb, ltb-true, ltb-false}
use Rattle.basics.specs.Laws.Tests.{cases}
use lib.ListN.{get_or, length}
use Rattle.basics.specs.Tables.{table}
use Rattle.basics.specs.Laws.Tables.{length_table, get_d_table}
use Rattle.owners.specs.Owners.{lesser, least_of}
use Rattle.owners.specs.Laws.Least.{least_same}

pub lesser_min : (m n r : ℕ) → (m ≡ 0 → ⊥) → (n ≡ 0 → ⊥) → r ≡ min m n → r ≡ lesser m n
lesser_min m n r h k e =
    e ∙ rw (ne_eqb m 0 h, ne_eqb n 0 k)
    (cases (ltb m n) (λ l. rw l (omega (arith, ltb-true m n l))) (λ l. rw l (omega (arith, ltb-false m n l))))

pub record Least (n : ℕ) (f : ℕ → ℕ) (k r : ℕ) : Type 0 where
  pub up : k ≤ n
  pub is : r ≡ least_of k f

pub least_none : (n : ℕ) (f : ℕ → ℕ) → Least n f 0 0
unfolding least_of
least_none n f = record { up = omega arith; is = refl }

pub least_more : (n : ℕ) (f : ℕ → ℕ) (k r : ℕ) → Least n f k r → k < n → (v : ℕ) → v ≡ lesser (f k) r → Least n f (k + 1) v
unfolding least_of
least_more n f k r c h v e = record { up = omega arith; is = e ∙ rw (add-one, c.is) }

pub least_all : (n : ℕ) (f : ℕ → ℕ) (k r : ℕ) → Least n f k r → n ≤ k → r ≡ least_of n f
least_all n f k r c h = let e : k ≡ n = omega (arith, c.up) in rw e at c.is

pub least_table : (n : ℕ) (f : ℕ → ℕ) → least_of (length (table n f)) (λ i. get_or (table n f) i 0) ≡ least_of n f
least_table n f = rw (length_table n f) (least_same n (λ i. get_or (table n f) i 0) f (λ i l. get_d_table 0 n f i l))
