-- The verdict's ways out, as the code's tests give them, and whether a file is an input, as the library's search gives it.
use Prim.Native.Nat.{ℕ}
use mathlib.Core.Bool.{Bool, true, false, ◌||◌}
use mathlib.Core.List.{List, [], ◌∷◌}
use mathlib.Core.Path.{◌≡◌, refl, ap}
use borrow.Author.Tests.{eq-eqb, ne_eqb}
use Rattle.std.specs.List.{list_any}
use Rattle.std.specs.Prelude.{Result, Ok, Err}
use Rattle.files.specs.declared.errors.Errno.{Errno}
use Rattle.files.specs.declared.errors.Why.TheVariants.{Look, Link, Kind, Input}
use Rattle.files.specs.declared.sight.Seen.{Seen}
use Rattle.files.specs.Rule.{kind_of, same_file, is_input, verdict_of}

-- whether it is an input, as the library's search says it
pub input_any : (seen : Seen) (inputs : List Seen) → list_any (same_file seen) inputs ≡ is_input seen inputs
unfolding is_input
input_any seen [] = refl
input_any seen (input ∷ inputs) = ap (λ (b : Bool). same_file seen input || b) (input_any seen inputs)

module _ (told : Result Seen Errno) (inputs : List Seen) where
  module _ (error : Errno) (is : told ≡ Err error) where
    pub free : error.0 ≡ 2 → Ok tt ≡ verdict_of told inputs
    unfolding verdict_of
    free e = rw is (simp (eq-eqb _ _ e))

    pub untold : (error.0 ≡ 2 → ⊥) → Err Look ≡ verdict_of told inputs
    unfolding verdict_of
    untold n = rw is (simp (ne_eqb _ _ n))

  module _ (seen : Seen) (is : told ≡ Ok seen) (kind : ℕ) (of : kind ≡ kind_of seen.mode) where
    pub a_link : kind ≡ 10 → Err Link ≡ verdict_of told inputs
    unfolding verdict_of
    a_link t = rw is (simp (← of, eq-eqb _ _ t))

    pub no_file : (kind ≡ 10 → ⊥) → (kind ≡ 8 → ⊥) → Err Kind ≡ verdict_of told inputs
    unfolding verdict_of
    no_file t u = rw is (simp (← of, ne_eqb _ _ t, ne_eqb _ _ u))

    pub was_read : kind ≡ 8 → is_input seen inputs ≡ true → Err Input ≡ verdict_of told inputs
    unfolding verdict_of
    was_read u q = rw is (simp (← of, u, q))

    pub not_read : kind ≡ 8 → is_input seen inputs ≡ false → Ok tt ≡ verdict_of told inputs
    unfolding verdict_of
    not_read u q = rw is (simp (← of, u, q))
