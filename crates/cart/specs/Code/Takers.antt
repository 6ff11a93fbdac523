-- A register whose half-page may be switched, and a request that acts; any other is none.
use Rattle.std.specs.Prelude.{ℕ, cond, List, Option, Some, None}
use Rattle.switches.specs.Flips.{acts}
use Rattle.switches.specs.Banks.{banked}

abbrev pub banked_only : List ℕ → Option ℕ → Option ℕ
banked_only permissions (Some p) = cond (banked permissions p) (Some p) None
banked_only permissions None = None

abbrev pub acting_only : List ℕ → Option ℕ → Option ℕ
acting_only flips (Some n) = cond (acts flips n) (Some n) None
acting_only flips None = None
