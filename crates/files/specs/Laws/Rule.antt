-- The rule of the floor: what is free to be replaced, exactly; so never a file that was read, a link, or what is no regular file.
use Prim.Native.Nat.{ℕ, zero, suc, ◌<◌}
use Rattle.std.specs.Prelude.{Bool, true, false, not, ◌↔◌, ◌≡◌, refl, eqb, length, get_or, Result, Ok, Err}
use Rattle.std.proofs.Math.Bool.{cond}
use mathlib.Core.List.{List, [], ◌∷◌}
use Rattle.std.proofs.Common.{arith, eq-eqb, eqb-true}
use Rattle.basics.specs.Laws.Tests.{true_is_not_false, or_right, or_left, not-false}
use Rattle.files.specs.declared.errors.Errno.{Errno}
use Rattle.files.specs.declared.errors.Why.{Why}
use Rattle.files.specs.declared.errors.Why.TheVariants.{Look, Link, Kind, Input}
use Rattle.files.specs.declared.sight.Seen.{Seen}
use Rattle.files.specs.Rule.{kind_of, same_file, is_input, verdict_of}

-- nothing stands there, or a regular file that was not read
abbrev pub Free : Result Seen Errno → List Seen → Type 0
Free (Ok seen) inputs = (kind_of seen.mode ≡ 8) × (is_input seen inputs ≡ false)
Free (Err error) inputs = error.0 ≡ 2

abbrev Verdict : Type 0
Verdict = Result (Unit {0}) Why

abbrev free : Verdict
free = Ok tt

-- a row that forbids does not hold where a name is free, and what is behind it decides
silent : (b : Bool) (w : Why) (v : Verdict) → cond b (Err w) v ≡ free → b ≡ false
silent true w v e = absurd (cc)
silent false w v e = refl

rest : (b : Bool) (w : Why) (v : Verdict) → cond b (Err w) v ≡ free → v ≡ free
rest true w v e = absurd (cc)
rest false w v e = e

two : (b : Bool) (w : Why) → cond b free (Err w) ≡ free → b ≡ true
two true w e = refl
two false w e = absurd (cc)

is_free : (seen : Result Seen Errno) (inputs : List Seen) → verdict_of seen inputs ≡ free → Free seen inputs
unfolding verdict_of
is_free (Ok seen) inputs e =
    let b = rest (eqb (kind_of seen.mode) 10) Link _ e in (
      eqb-true _ _ (not-false _ (silent (not (eqb (kind_of seen.mode) 8)) Kind _ b)),
      silent (is_input seen inputs) Input _ (rest (not (eqb (kind_of seen.mode) 8)) Kind _ b),
    )
is_free (Err error) inputs e = eqb-true _ _ (two (eqb error.0 2) Look e)

may_be : (seen : Result Seen Errno) (inputs : List Seen) → Free seen inputs → verdict_of seen inputs ≡ free
unfolding verdict_of
may_be (Ok seen) inputs (k, i) = simp (k, i)
may_be (Err error) inputs e = simp (eq-eqb _ _ e)

pub free_exactly : (seen : Result Seen Errno) (inputs : List Seen) → (verdict_of seen inputs ≡ Ok tt) ↔ Free seen inputs
free_exactly seen inputs = (is_free seen inputs, may_be seen inputs)

module _ (seen : Seen) where
  -- so nothing that is told to be there is replaced, but a regular file
  pub never_what_is_no_file : (inputs : List Seen) → (kind_of seen.mode ≡ 8 → ⊥) → verdict_of (Ok seen) inputs ≡ Ok tt → ⊥
  never_what_is_no_file inputs n v = n (is_free (Ok seen) inputs v).0

  -- nor a file that was read, whichever of the inputs it is
  pub input_is : (inputs : List Seen) (i : ℕ) (d : Seen) → i < length inputs → same_file seen (get_or inputs i d) ≡ true → is_input seen inputs ≡ true
  unfolding is_input
  input_is [] i d h e = absurd (omega arith)
  input_is (x ∷ inputs) zero d h e = or_left (same_file seen x) (is_input seen inputs) e
  input_is (x ∷ inputs) (suc i) d h e = or_right (same_file seen x) (is_input seen inputs) (input_is inputs i d (omega arith) e)

  pub never_an_input :
      (inputs : List Seen) (i : ℕ) (d : Seen) → i < length inputs → same_file seen (get_or inputs i d) ≡ true
      → verdict_of (Ok seen) inputs ≡ Ok tt → ⊥
  never_an_input inputs i d h e v = true_is_not_false (input_is inputs i d h e) (is_free (Ok seen) inputs v).1
