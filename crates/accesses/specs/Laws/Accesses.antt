-- A list of accesses, line by line: one line more, no line left, and a list in which none is malformed.
use Rattle.std.specs.Prelude.{ℕ, zero, suc, ◌+◌, ◌≤◌, List, [], ◌∷◌, ◌++◌, ◌≡◌, refl, true, length, take}
use Rattle.std.proofs.Math.Option.{Option, none, some}
use Rattle.std.proofs.Common.{sym, ap, ◌∙◌, arith}
use Rattle.basics.specs.Options.{is_some}
use Rattle.basics.specs.Laws.Tests.{cases}
use Rattle.cart.specs.Run.{Access}
use Rattle.accesses.specs.Line.{line_says}
use Rattle.accesses.specs.Accesses.{accesses_in, malformed_from, reads_in}

pub reads_append : (xs ys : List Access) → reads_in (xs ++ ys) ≡ reads_in xs + reads_in ys
unfolding reads_in
reads_append [] ys = omega arith
reads_append (x ∷ xs) ys = omega (arith, reads_append xs ys)

-- the first lines have no more reads than all
pub reads_take : (n : ℕ) (xs : List Access) → reads_in (take n xs) ≤ reads_in xs
unfolding reads_in
reads_take zero xs = omega arith
reads_take (suc n) [] = omega arith
reads_take (suc n) (x ∷ xs) = omega (arith, reads_take n xs)

-- a line that says an access, before others
module _ (l : List ℕ) (ls : List (List ℕ)) (x : Access) (e : line_says l ≡ some x) where
  pub accesses_one : accesses_in (l ∷ ls) ≡ x ∷ accesses_in ls
  unfolding accesses_in
  accesses_one = rw e

  pub malformed_one : (n : ℕ) → malformed_from n (l ∷ ls) ≡ malformed_from (n + 1) ls
  unfolding malformed_from
  malformed_one n = rw e

pub malformed_here : (n : ℕ) (l : List ℕ) (ls : List (List ℕ)) → line_says l ≡ none → malformed_from n (l ∷ ls) ≡ n
unfolding malformed_from
malformed_here n l ls e = rw e

-- where none is malformed each says one
pub first_good : (n : ℕ) (l : List ℕ) (ls : List (List ℕ)) → malformed_from (suc n) (l ∷ ls) ≡ 0 → is_some (line_says l) ≡ true
unfolding malformed_from
first_good n l ls h = cases (is_some (line_says l)) (λ e. e) (λ e. let z : suc n ≡ 0 = rw e at h in absurd (omega arith))

pub some_of : (o : Option Access) → is_some o ≡ true → (x : Access) × (o ≡ some x)
some_of none e = let z : ◌≡◌ {A = ℕ} 0 1 = cc in absurd (omega arith)
some_of (some x) e = (x, refl)

pub as_many : (n : ℕ) (ls : List (List ℕ)) → malformed_from (suc n) ls ≡ 0 → length (accesses_in ls) ≡ length ls
unfolding accesses_in
as_many n [] h = refl
as_many n (l ∷ ls) h =
    let g = some_of (line_says l) (first_good n l ls h) in
    let m : suc n + 1 ≡ suc (suc n) = omega arith in
    let r : malformed_from (suc (suc n)) ls ≡ 0 = ap (λ (k : ℕ). malformed_from k ls) (sym m) ∙ sym (malformed_one l ls g.0 g.1 (suc n)) ∙ h in
    ap length (accesses_one l ls g.0 g.1) ∙ ap suc (as_many (suc n) ls r)
