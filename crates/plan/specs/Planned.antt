-- What lines have from their plan: all that the builder lays out, its words aside (01, How an image is laid out by the builder); and the
-- plan is a valid one, of no more lines than they are (02, W-213).
use Rattle.std.specs.Prelude.{ℕ, ◌≤◌, ◌≡◌, List, length}
use Rattle.lines.specs.declared.Line.{Line}
use Rattle.lines.specs.Kinds.{kind_of}
use Rattle.layout.specs.Layout.{mapping_table, permissions_table, flip_table, pages, covered, line_held}
use Rattle.plan.specs.Valid.{Valid, is_ram_kind}
use Rattle.plan.specs.Image.{mapping_of, permissions_of, flips_of, pages_of, covered_of, ram_covered_of}
use Rattle.plan.specs.Fewest.{fewest}
use Rattle.plan.specs.OfLines.{plan_of}

pub record Planned (lines : List Line) : Type 0 where
  pub mapping : mapping_table lines ≡ mapping_of (plan_of lines)
  pub permissions : permissions_table lines ≡ permissions_of (plan_of lines)
  pub flips : flip_table lines ≡ flips_of (plan_of lines)
  pub pages : pages lines ≡ pages_of (plan_of lines)
  pub covered : (p : ℕ) → covered lines p ≡ covered_of (plan_of lines) p
  pub ram : (p : ℕ) → is_ram_kind (kind_of (line_held lines p)) ≡ ram_covered_of (plan_of lines) p
  pub valid : Valid (plan_of lines)
  pub fewest : fewest (plan_of lines) ≤ length lines
