-- What stands in the two arrays is what the plan has.
use Rattle.std.specs.Prelude.{◌%◌, ◌*◌, ◌+◌, ◌/◌, ℕ, List, ◌≡◌, Bool, false, get_or}
use Rattle.std.proofs.Common.{ap, arith}
use Rattle.plan.specs.Plan.{has_page, kinds}
use Rattle.ledger.specs.Held.{plan_in}

module _ (ks : List ℕ) (ps : List Bool) where
  pub kind_in_lem : (p : ℕ) → kinds (plan_in ks ps) p ≡ get_or ks p 0
  kind_in_lem p = let z : 16 * (p / 16) + p % 16 ≡ p = omega arith in ap (λ (n : ℕ). get_or ks n 0) z

  pub page_in_lem : (n : ℕ) → has_page (plan_in ks ps) n ≡ get_or ps n false
  page_in_lem n = let z : 16 * (n / 16) + n % 16 ≡ n = omega arith in ap (λ (m : ℕ). get_or ps m false) z
