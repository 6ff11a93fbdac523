-- `hunk::write` meets its contract: the address at the front, and the data blocks behind it.
use borrow.Author.Rules.{rules}
use Rattle.hunk.proofs.Written.{write_short, write_three, write_front, write_room, write_all}
use Rattle.hunk.proofs.write.Goals as goal

pub returns-then-out-n : goal.returns-then-out-n
returns-then-out-n c = search (rules, write_short)

pub slice_bounds-put_address-end : goal.slice_bounds-put_address-end
slice_bounds-put_address-end c = search (rules, write_front)

pub slice_bounds-write_cuts-count : goal.slice_bounds-write_cuts-count
slice_bounds-write_cuts-count c = search (rules, write_three)

pub slice_bounds-write_cuts-start : goal.slice_bounds-write_cuts-start
slice_bounds-write_cuts-start c = search (rules, write_three)

pub write_cuts-requires : goal.write_cuts-requires
write_cuts-requires c = search (rules, write_room)

pub returns : goal.returns
returns c = search (rules, write_all)
