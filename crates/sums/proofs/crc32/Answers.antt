-- `sums::crc32` meets its contract: it lends CRC32's own tables.
use Rattle.sums.specs.Laws.Tables.{ieee_by}
use Rattle.sums.proofs.crc32.Goals as goal

pub returns : goal.returns
returns c = rw c.sum_by.ensures
    (ieee_by _ c.args.s.now c.tables-t.ensures
    (λ i. (c.type_inv.s i).fits))
