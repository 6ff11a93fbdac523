-- What the code answers of a load tells all that the load comes to: a refusal, with zero in all else, or what is loaded.
use Rattle.std.specs.Prelude.{ℕ, List, ◌≡◌, Result, Ok, Err}
use Rattle.std.proofs.Common.{ap, sym, ◌∙◌}
use Rattle.basics.specs.declared.Refusal.{Refusal}
use Rattle.basics.specs.Laws.Outcomes.{err_is, err_some}
use Rattle.load.specs.declared.Loaded.{Loaded}
use Rattle.basics.specs.Refusals.{outcome}
use Rattle.basics.specs.Laws.Tests.{cases}
use Rattle.header.specs.Header.{flags_of}
use Rattle.blocks.specs.Images.{blocks_in}
use Rattle.load.specs.Load.{refusal_of, loads, loaded_of, refused, loading_of, loaded, load_answer, loading_from}

module _ (s : List ℕ) (m f : ℕ) where
  pub answer_is : load_answer (loading_of s m f) ≡ outcome (refusal_of s m f) (loaded (loaded_of (flags_of s) (blocks_in s)))
  unfolding loading_of
  answer_is = cases (loads s m f) (λ p. rw p) (λ p. rw (p, p))

  pub loading_back : loading_from (load_answer (loading_of s m f)) ≡ loading_of s m f
  unfolding loading_of
  loading_back = cases (loads s m f) (λ p. rw p) (λ p. rw (p, p))

  module _ (v : Result Loaded Refusal) (ev : v ≡ load_answer (loading_of s m f)) where
    pub loading_ok : (l : Loaded) → v ≡ Ok l → loading_from (Ok l) ≡ loading_of s m f
    loading_ok l e = ap loading_from (sym e ∙ ev) ∙ loading_back

    pub loading_err : (r : Refusal) → v ≡ Err r → refused r ≡ loading_of s m f
    loading_err r e = ap loading_from (sym e ∙ ev) ∙ loading_back

    pub err_refuses : (r : Refusal) → v ≡ Err r → r.number ≡ 0 → ⊥
    err_refuses r e z =
        let q : load_answer (loading_of s m f) ≡ Err r = sym ev ∙ e in
        err_some (loading_of s m f).refusal (loaded (loading_of s m f)) r q (ap (λ (x : Refusal). x.number) (err_is (loading_of s m f).refusal (loaded (loading_of s m f)) r q) ∙ z)

    pub answered_back : loading_from v ≡ loading_of s m f
    answered_back = ap loading_from ev ∙ loading_back

    pub answer_again : v ≡ load_answer (loading_from v)
    answer_again = ev ∙ ap load_answer (sym answered_back)
