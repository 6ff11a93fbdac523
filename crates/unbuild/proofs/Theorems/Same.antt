-- Images that hold the same come back as the same BIN and the same CFG: so do two sources that build the same tables and words (02, W-213).
use Rattle.std.specs.Prelude.{◌*◌, ◌+◌, ℕ, ◌≡◌, List, Bool, false}
use Rattle.std.proofs.Common.{◌∙◌, ap₂, sym}
use Rattle.std.proofs.Math.Path.{ap, fun_ext}
use Rattle.std.proofs.Math.Bool.{true}
use Rattle.basics.specs.Laws.Counts.{all_same}
use Rattle.basics.specs.Laws.Tests.{not-false}
use Rattle.places.specs.Limits.{lent_limit}
use Rattle.tables.specs.Tables.{Tables}
use Rattle.load.specs.Load.{flash_asked, loading_of, loads}
use Rattle.plan.specs.Plan.{Plan}
use Rattle.behind.specs.Behind.{behind}
use Rattle.canon.specs.Bin.{canonical_bin}
use Rattle.canon.specs.Laws.Same.{bin_same}
use Rattle.unbuild.specs.Behind.{bin_behind, cfg_behind, cfg_of, plan_behind, rebuilds, unbuildable}
use Rattle.unbuild.specs.Content.{SameContent, loaded_word, names_word}
use Rattle.unbuild.proofs.Theorems.Exactly.{named_is}

module _ (s t : List ℕ) (same : SameContent s t) where
  plan_same : plan_behind s ≡ plan_behind t
  plan_same =
      ap₂ (λ (a : Tables) (n : ℕ → Bool). behind a n) same.tables
      (fun_ext (λ p. all_same 256 (λ i. names_word s (256 * p + i)) (λ i. names_word t (256 * p + i)) (λ i h. same.names (256 * p + i))))

  pub cfg_same : cfg_behind s ≡ cfg_behind t
  cfg_same = ap cfg_of plan_same

  pub bin_alike : (loading_of s lent_limit (flash_asked s)).refusal.number ≡ 0 → unbuildable s ≡ false → bin_behind s ≡ bin_behind t
  unfolding unbuildable
  bin_alike loads e =
      let r : rebuilds (plan_behind s) s ≡ true = not-false (rebuilds (plan_behind s) s) e in
      bin_same (plan_behind s) (loaded_word s) (loaded_word t)
      (λ i c. same.words i (sym (same.names i) ∙ named_is s loads r i ∙ c))
      ∙ ap (λ (q : Plan). canonical_bin q (loaded_word t)) plan_same
