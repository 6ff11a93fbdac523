-- What is said of the TutorVision: nothing exactly at version 0 of the compatibility fields, and else the setting of flags 10 and 11.
use Rattle.std.specs.Prelude.{ℕ, ◌<◌, ◌≡◌, List, ◌↔◌, eqb}
use Rattle.std.proofs.Common.{ap, arith, eq-eqb, ne_eqb, eqb-true}
use Rattle.std.proofs.lemmas.Bool.{eqb-false}
use Rattle.basics.specs.Laws.Tests.{cases}
use Rattle.header.specs.declared.TutorVision.TheVariants.{NotStated}
use Rattle.header.specs.Flags.{field, setting_of, stated_at, number_of, compat_of}

-- a setting's number is its two bits
pub setting_number : (bits : ℕ) → bits < 4 → number_of (setting_of bits) ≡ bits
unfolding setting_of
setting_number bits h =
    cases (eqb bits 0) (λ a. let e : bits ≡ 0 = eqb-true _ _ a in rw (a, e))
    (λ a.
    cases (eqb bits 1) (λ b. let e : bits ≡ 1 = eqb-true _ _ b in rw (a, b, e))
    (λ b.
    cases (eqb bits 2) (λ c. let e : bits ≡ 2 = eqb-true _ _ c in rw (a, b, c, e))
    (λ c. let e : bits ≡ 3 = omega (arith, eqb-false bits 0 a, eqb-false bits 1 b, eqb-false bits 2 c) in rw (a, b, c, e))))

module _ (flags : List ℕ) where
  pub stated_number : (field flags 8 ≡ 0 → ⊥) → number_of (compat_of flags).tutorvision ≡ field flags 10
  unfolding compat_of stated_at
  stated_number n = rw (ne_eqb _ _ n) (setting_number (field flags 10) (omega arith))

  pub stated_none : field flags 8 ≡ 0 → (compat_of flags).tutorvision ≡ NotStated
  unfolding compat_of stated_at
  stated_none e = rw (eq-eqb _ _ e)

  none_stated : (compat_of flags).tutorvision ≡ NotStated → field flags 8 ≡ 0
  none_stated e =
      cases (eqb (field flags 8) 0) (λ a. eqb-true _ _ a)
      (λ a. let k : number_of (compat_of flags).tutorvision ≡ field flags 10 = stated_number (eqb-false _ _ a) in absurd (omega (arith, k, ap number_of e)))

  pub not_stated_exactly : ((compat_of flags).tutorvision ≡ NotStated) ↔ (field flags 8 ≡ 0)
  not_stated_exactly = (none_stated, stated_none)
