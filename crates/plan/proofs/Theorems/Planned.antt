-- Accepted lines are laid out as their plan says (W-213, Lemma 1 (a)).
use Rattle.std.specs.Prelude.{ℕ, List}
use Rattle.lines.specs.declared.Line.{Line}
use Rattle.rules.specs.Accepted.{Accepted}
use Rattle.rules.specs.Laws.Rules.{good}
use Rattle.plan.specs.Planned.{Planned}
use Rattle.plan.proofs.Theorems.Tables.{mapping_is, permissions_is, flips_is, pages_is}
use Rattle.plan.proofs.Theorems.Covered.{covered_is, ram_is}
use Rattle.plan.proofs.Theorems.Valid.{plan_valid}
use Rattle.plan.proofs.Theorems.Fewest.{plan_fewest}

pub planned : {bin : List ℕ} {lines : List Line} → Accepted bin lines → Planned lines
planned {lines = lines} a =
    record {
      mapping = mapping_is lines;
      permissions = permissions_is lines;
      flips = flips_is lines;
      pages = pages_is lines;
      covered = covered_is (good a).fine;
      ram = ram_is (good a).fine;
      valid = plan_valid (good a);
      fewest = plan_fewest (good a);
    }
