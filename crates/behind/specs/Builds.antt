-- What it means that a plan builds tables, named paragraphs and zeros (02, W-213).
use Rattle.std.specs.Prelude.{ℕ, ◌≤◌, ◌≡◌, Bool, true}
use Rattle.places.specs.Limits.{line_limit}
use Rattle.tables.specs.Tables.{Tables, tables}
use Rattle.plan.specs.Plan.{Plan}
use Rattle.plan.specs.Image.{mapping_of, permissions_of, flips_of, covered_of, ram_covered_of}
use Rattle.plan.specs.Fewest.{fewest}

abbrev pub plan_tables : Plan → Tables
plan_tables q = tables (mapping_of q) (permissions_of q) (flips_of q)

-- an image of these tables, which names these Locutus paragraphs; of those, the plan's RAM is blank, all zeros; and the plan takes as
-- many lines as a CFG may have
pub record Builds (t : Tables) (named blank : ℕ → Bool) (q : Plan) : Type 0 where
  pub tables : plan_tables q ≡ t
  pub names : (p : ℕ) → covered_of q p ≡ named p
  pub zeros : (p : ℕ) → ram_covered_of q p ≡ true → blank p ≡ true
  pub some : 1 ≤ fewest q
  pub few : fewest q ≤ line_limit
