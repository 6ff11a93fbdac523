-- `header::write` meets its contract: five fields in their parts, then the checksum of what stands there.
use native.Mathlib.Omega.{arith}
use lib.ListN.{length-take, length-set}
use borrow.Author.Rules.{rules}
use Rattle.header.proofs.Laws.{no_room, header_written}
use Rattle.header.proofs.write.Goals as goal

pub returns-then-out-lt-HEADER_SIZE : goal.returns-then-out-lt-HEADER_SIZE
returns-then-out-lt-HEADER_SIZE c = search (rules, no_room)

pub slice_bounds-dowcrc_short-end-2 : goal.slice_bounds-dowcrc_short-end-2
slice_bounds-dowcrc_short-end-2 c = simp length-take (omega arith)

pub shape_of-out : goal.shape_of-out
shape_of-out c = simp length-set (omega arith)

pub returns : goal.returns
returns c = search (rules, header_written)
