-- `sums::dowcrc_short` meets its contract: the sum of bytes is a byte.
use Rattle.sums.proofs.Laws.{dow_short}
use Rattle.sums.proofs.dowcrc_short.Goals as goal

pub returns : goal.returns
returns c =
    dow_short _ c.args.s.now c.bitwise.ensures (λ i. (c.type_inv.s i).fits)
