-- `sums::crc324` meets its contract: it lends CRC32/4's own tables.
use mathlib.Core.Path.{◌∙◌}
use Rattle.sums.specs.Laws.Tables.{c324_by}
use Rattle.sums.proofs.crc324.Goals as goal

pub returns : goal.returns
returns c =
    c.sum_by.ensures
    ∙ c324_by _ c.args.s.now c.tables-t.ensures
    (λ i. (c.type_inv.s i).fits)
