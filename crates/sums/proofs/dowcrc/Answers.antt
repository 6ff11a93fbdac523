-- `sums::dowcrc` meets its contract: it lends DOWCRC's own tables.
use mathlib.Core.Path.{◌∙◌}
use Rattle.sums.specs.Laws.Tables.{dow_by}
use Rattle.sums.proofs.dowcrc.Goals as goal

pub returns : goal.returns
returns c =
    c.dowcrc_by.ensures
    ∙ dow_by _ c.args.s.now c.tables-t.ensures
    (λ i. (c.type_inv.s i).fits)
