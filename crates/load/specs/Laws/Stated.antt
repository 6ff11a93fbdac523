-- What a load says of the TutorVision: nothing exactly when it is refused or the image's compatibility version is 0 (02, W-201).
use Rattle.std.specs.Prelude.{ℕ, ◌≡◌, List, true, false, ◌⊎◌, ◌↔◌}
use Rattle.std.proofs.Common.{sym, ap, ◌∙◌, inl, inr, eq-eqb, ne_eqb}
use Rattle.std.proofs.lemmas.Bool.{eqb-false}
use Rattle.basics.specs.declared.Refusal.{Refusal}
use Rattle.basics.specs.Laws.Tests.{cases}
use Rattle.header.specs.declared.TutorVision.TheVariants.{NotStated}
use Rattle.header.specs.Header.{flags_of}
use Rattle.header.specs.Flags.{field, number_of, compat_of}
use Rattle.header.specs.Laws.Flags.{stated_number as bits-number, not_stated_exactly}
use Rattle.load.specs.Load.{loads, refusal_of, loading_of}
use Rattle.load.specs.Laws.Refusals.{answer_refusal}

module _ (s : List ℕ) (m f : ℕ) where
  -- the fields of a load that is not refused, and of one that is
  loaded_compat : loads s m f ≡ true → (loading_of s m f).compat ≡ compat_of (flags_of s)
  unfolding loading_of
  loaded_compat e = rw e

  refused_stated : loads s m f ≡ false → (loading_of s m f).compat.tutorvision ≡ NotStated
  unfolding loading_of
  refused_stated e = rw e

  pub not_stated : ((loading_of s m f).compat.tutorvision ≡ NotStated) ↔ (((loading_of s m f).refusal.number ≡ 0 → ⊥) ⊎ (field (flags_of s) 8 ≡ 0))
  not_stated = (to, from)
    where
      number : (loading_of s m f).refusal.number ≡ (refusal_of s m f).number
      number = ap (λ (r : Refusal). r.number) (answer_refusal s m f)

      to : (loading_of s m f).compat.tutorvision ≡ NotStated → ((loading_of s m f).refusal.number ≡ 0 → ⊥) ⊎ (field (flags_of s) 8 ≡ 0)
      to e =
          cases (loads s m f) (λ a. inr ((not_stated_exactly (flags_of s)).0 (rw (loaded_compat a) at e)))
          (λ a. inl (λ z. eqb-false _ _ a (sym number ∙ z)))

      from : ((loading_of s m f).refusal.number ≡ 0 → ⊥) ⊎ (field (flags_of s) 8 ≡ 0) → (loading_of s m f).compat.tutorvision ≡ NotStated
      from (inl n) = refused_stated (ne_eqb _ _ (λ z. n (number ∙ z)))
      from (inr e) = cases (loads s m f) (λ a. rw (loaded_compat a) ((not_stated_exactly (flags_of s)).1 e)) refused_stated

  -- else it is the setting of flags 10 and 11
  pub stated : (loading_of s m f).refusal.number ≡ 0 → (field (flags_of s) 8 ≡ 0 → ⊥) → number_of (loading_of s m f).compat.tutorvision ≡ field (flags_of s) 10
  stated e n =
      let a : loads s m f ≡ true = eq-eqb _ _ (sym (ap (λ (r : Refusal). r.number) (answer_refusal s m f)) ∙ e) in
      rw (loaded_compat a) (bits-number (flags_of s) n)
