-- `blocks::payload_sum` meets its contract: the sum by any tables, and by those of CRC32/4.
use mathlib.Core.Path.{ap, ◌∙◌}
use Rattle.sums.specs.Tables.{by_tables}
use Rattle.blocks.proofs.Laws.{sum_by_own}
use Rattle.blocks.proofs.payload_sum.Goals as goal

pub returns : goal.returns
returns c = (
  c.sum_by.ensures ∙ ap (by_tables c.args.c324.now 0) c.payload_of.ensures,
  λ own. sum_by_own _ _ c.payload_of.ensures _ _ c.sum_by.ensures own (λ i. (c.type_inv.x i).fits),
)
