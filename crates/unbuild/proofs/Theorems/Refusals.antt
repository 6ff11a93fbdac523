-- Going back is refused exactly when a row of its table holds and none before it does; a refusal leaves both buffers; and of an image that loads
-- 31 says exactly that no BIN and CFG builds to it.
use Rattle.std.specs.Prelude.{ℕ, ◌≡◌, List, [], ◌∷◌, Bool, cond, false, true, ◌↔◌}
use Rattle.std.proofs.Common.{◌∙◌, ap, sym, arith, ne_eqb}
use Rattle.std.proofs.Math.Path.{refl}
use Rattle.basics.specs.Laws.Refusals.{Refusing, accepted_exactly, refused_exactly, refusing_append, silent_behind}
use Rattle.basics.specs.Refusals.{first_refusal, no_refusal, refuse}
use Rattle.basics.specs.Rows.{Gives, Row, Silent}
use Rattle.basics.specs.declared.Refusal.{Refusal}
use Rattle.places.specs.Limits.{lent_limit}
use Rattle.load.specs.Laws.Refusals.{loads_exactly, rows_refusing}
use Rattle.load.specs.Load.{flash_asked, loading_of, rows_by_size}
use Rattle.unbuild.specs.Behind.{unbuildable}
use Rattle.unbuild.proofs.Theorems.Exactly.{Buildable, buildable_exactly, unbuildable_exactly}
use Rattle.unbuild.specs.Unbuild.{bin_after, bin_too_long, cfg_after, either_short, refusal_of, refusal_rows, unbuilding_of}

pub record Answers (s bin cfg : List ℕ) : Type 0 where
  pub refused : (r : Refusal) → (r.number ≡ 0 → ⊥) → ((unbuilding_of s bin cfg).refusal ≡ r) ↔ Gives (refusal_rows s bin cfg) r
  pub accepted : ((unbuilding_of s bin cfg).refusal.number ≡ 0) ↔ Silent (refusal_rows s bin cfg)
  pub bin_kept : ((unbuilding_of s bin cfg).refusal.number ≡ 0 → ⊥) → bin_after s bin cfg ≡ bin
  pub cfg_kept : ((unbuilding_of s bin cfg).refusal.number ≡ 0 → ⊥) → cfg_after s bin cfg ≡ cfg
  -- 31, of an image that loads
  pub unbuilt : (loading_of s lent_limit (flash_asked s)).refusal.number ≡ 0 → ((unbuilding_of s bin cfg).refusal ≡ refuse 31 0) ↔ (Buildable s → ⊥)

module _ (s bin cfg : List ℕ) where
  abbrev mine : List (Row Refusal)
  mine = (unbuildable s, refuse 31 0) ∷ (bin_too_long s, refuse 32 0) ∷ (either_short s bin cfg, refuse 29 0) ∷ []

  every_row : Refusing (refusal_rows s bin cfg)
  every_row = refusing_append (rows_by_size s lent_limit) mine (rows_refusing s lent_limit (flash_asked s)) ((λ z. omega arith), ((λ z. omega arith), ((λ z. omega arith), tt)))

  refusal_is : (unbuilding_of s bin cfg).refusal ≡ refusal_of s bin cfg
  unfolding unbuilding_of
  refusal_is = refl

  module _ (loads : (loading_of s lent_limit (flash_asked s)).refusal.number ≡ 0) where
    behind_load : refusal_of s bin cfg ≡ first_refusal mine
    unfolding refusal_of
    behind_load = silent_behind (rows_by_size s lent_limit) mine ((loads_exactly s lent_limit (flash_asked s)).0 loads)

    thirty_one : (refusal_of s bin cfg ≡ refuse 31 0) ↔ (Buildable s → ⊥)
    thirty_one = (
      (λ e w.
          let f : unbuildable s ≡ false = (buildable_exactly s loads).1 w in
          let r : first_refusal mine ≡ refuse 31 0 = sym behind_load ∙ e in
          other (bin_too_long s) (either_short s bin cfg) (rw f at r)),
      (λ n. behind_load ∙ rw ((unbuildable_exactly s loads).1 n)),
    )
      where
        other : (a b : Bool) → cond a (refuse 32 0) (cond b (refuse 29 0) no_refusal) ≡ refuse 31 0 → ⊥
        other true b e = let z : ◌≡◌ {A = ℕ} 32 31 = ap (λ (r : Refusal). r.number) e in omega arith
        other false true e = let z : ◌≡◌ {A = ℕ} 29 31 = ap (λ (r : Refusal). r.number) e in omega arith
        other false false e = let z : ◌≡◌ {A = ℕ} 0 31 = ap (λ (r : Refusal). r.number) e in omega arith

  keeps_bin : ((refusal_of s bin cfg).number ≡ 0 → ⊥) → bin_after s bin cfg ≡ bin
  unfolding bin_after
  keeps_bin h = rw (ne_eqb (refusal_of s bin cfg).number 0 h)

  keeps_cfg : ((refusal_of s bin cfg).number ≡ 0 → ⊥) → cfg_after s bin cfg ≡ cfg
  unfolding cfg_after
  keeps_cfg h = rw (ne_eqb (refusal_of s bin cfg).number 0 h)

  pub answers : Answers s bin cfg
  unfolding refusal_of
  answers =
      record {
        refused = λ r h. rw refusal_is (refused_exactly (refusal_rows s bin cfg) every_row r h);
        accepted = rw refusal_is (accepted_exactly (refusal_rows s bin cfg) every_row);
        bin_kept = λ h. keeps_bin (rw refusal_is at h);
        cfg_kept = λ h. keeps_cfg (rw refusal_is at h);
        unbuilt = λ l. rw refusal_is (thirty_one l);
      }
