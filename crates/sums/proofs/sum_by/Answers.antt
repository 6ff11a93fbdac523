-- `sums::sum_by` meets its contract: all eights, and the bytes from there on.
use Prim.Native.Nat.{◌*◌, ◌/◌}
use mathlib.Core.Path.{◌∙◌, ap₂}
use lib.ListN.{length}
use Rattle.basics.specs.Laws.Lists.{part_rest}
use Rattle.sums.specs.Tables.{by_tables, by_bytes}
use Rattle.sums.proofs.sum_by.Goals as goal

pub returns : goal.returns
unfolding by_tables
returns c =
    let a = c.args in
    let s = a.s.now in
    c.bytes.ensures ∙ ap₂ (by_bytes a.t.now) c.eights.ensures (part_rest s (8 * (length s / 8)))
