-- The layout of the canonical lines of a plan is the plan's: so the builder's own layout tells whether the plan builds an image.
use Rattle.std.specs.Prelude.{◌<◌, ◌≤◌, ℕ, ◌≡◌, List}
use Rattle.std.proofs.Common.{◌∙◌, arith}
use Rattle.std.proofs.Math.Path.{ap}
use Rattle.std.proofs.Math.Bool.{false}
use Rattle.basics.specs.Laws.Tables.{table_same}
use Rattle.basics.specs.Tables.{table}
use Rattle.places.specs.Limits.{line_limit, locutus_paragraphs}
use Rattle.tables.specs.Tables.{Tables, tables}
use Rattle.lines.specs.declared.Line.{Line}
use Rattle.layout.specs.Drawing.{drawing_of}
use Rattle.layout.specs.Layout.{covered, flip_table, mapping_table, pages, permissions_table}
use Rattle.plan.specs.Fewest.{fewest}
use Rattle.plan.specs.Image.{covered_of, flips_of, mapping_of, pages_of, permissions_of}
use Rattle.plan.proofs.Theorems.Planned.{planned}
use Rattle.plan.specs.OfLines.{plan_of}
use Rattle.plan.specs.Plan.{Plan}
use Rattle.plan.specs.Planned.{Planned}
use Rattle.plan.specs.Valid.{Valid}
use Rattle.behind.specs.Builds.{plan_tables}
use Rattle.behind.proofs.Theorems.Alike.{Alike, base_alike, covered_alike, same_alike, tables_alike}
use Rattle.canon.specs.Laws.Lines.{canonical_lines}
use Rattle.canon.proofs.Theorems.Made.{canonical_accepted}
use Rattle.canon.proofs.Theorems.OfPlan.{plan_of_lines}

module _ (q : Plan) (w : ℕ → ℕ) (v : Valid q) (few : fewest q ≤ line_limit) where
  abbrev lines : List Line
  lines = canonical_lines q

  pl : Planned lines
  pl = planned (canonical_accepted q w v few)

  alike : (x : ℕ) → x < 16 → Alike x (plan_of lines x) (q x)
  alike x h = same_alike (plan_of_lines q v x h) x

  tables_are : tables (mapping_table lines) (permissions_table lines) (flip_table lines) ≡ plan_tables q
  tables_are = cc (pl.mapping, pl.permissions, pl.flips, tables_alike (plan_of lines) q alike)

  pub canonical_drawing : drawing_of lines
      ≡ record { mapping = mapping_of q; permissions = permissions_of q; flips = flips_of q; pages = pages_of q; marks = table locutus_paragraphs (covered_of q) }
  unfolding drawing_of
  canonical_drawing =
      let m : mapping_table lines ≡ mapping_of q = ap (λ (t : Tables). t.mapping) tables_are in
      let p : permissions_table lines ≡ permissions_of q = ap (λ (t : Tables). t.permissions) tables_are in
      let f : flip_table lines ≡ flips_of q = ap (λ (t : Tables). t.flips) tables_are in
      let n : pages lines ≡ pages_of q = pl.pages ∙ base_alike (plan_of lines) q alike 16 (omega arith) in
      let c : table locutus_paragraphs (covered lines) ≡ table locutus_paragraphs (covered_of q) =
      table_same false locutus_paragraphs (covered lines) (covered_of q) (λ i h. pl.covered i ∙ covered_alike (plan_of lines) q alike i) in
      rw (m, p, f, n, c)
