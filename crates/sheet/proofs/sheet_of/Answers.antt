-- `sheet::sheet_of` meets its contract, by what its callees ensure.
use Prim.Native.Nat.{ℕ}
use mathlib.Core.Path.{ap}
use lib.ListN.{take}
use Rattle.sheet.proofs.Loops.{sheet_is}
use Rattle.sheet.proofs.sheet_of.Goals as goal

pub returns : goal.returns
returns c =
    sheet_is c.args.mapping _ _ c.args.lines.now _ _ (ap (λ (k : ℕ). take k c.args.lines.now) c.min.ensures) c.min-m.ensures c.put_sections-length.ensures.length
    c.put_sections-length.ensures.bytes
