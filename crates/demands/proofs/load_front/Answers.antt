-- `load_front` meets its contract.
use native.Mathlib.Omega.{arith}
use lib.ListN.{length-take}
use Rattle.demands.specs.Laws.Tied.{loads_whole, loads_front}
use Rattle.demands.proofs.load_front.Goals as goal

pub slice_bounds-load-end : goal.slice_bounds-load-end
slice_bounds-load-end c = simp length-take (omega arith)

pub returns-then-long-buffer : goal.returns-then-long-buffer
returns-then-long-buffer c = loads_front _ _ _ _ _ c.load.ensures

pub returns : goal.returns
returns c = loads_whole _ _ _ _ _ _ c.if-long-buffer.false c.load-2.ensures
