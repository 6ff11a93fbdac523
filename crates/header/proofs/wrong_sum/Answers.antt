-- `header::wrong_sum` meets its contract: the sum of the bytes before it.
use native.Mathlib.Omega.{arith}
use lib.ListN.{length-take}
use Rattle.header.proofs.wrong_sum.Goals as goal

pub slice_bounds-dowcrc_short-end : goal.slice_bounds-dowcrc_short-end
slice_bounds-dowcrc_short-end c = simp length-take (omega arith)
