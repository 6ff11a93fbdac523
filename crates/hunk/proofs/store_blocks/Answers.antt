-- `hunk::store_blocks` meets its contract. The loop's invariant: the words of the data blocks before p are laid.
use Rattle.std.proofs.Common.{rules}
use Rattle.hunk.proofs.Loops.{store_start, store_end, store_room, store_low, store_more, stands_less, taken_data}
use Rattle.hunk.proofs.store_blocks.Goals as goal

pub loop-d-init : goal.loop-d-init
loop-d-init c = search (rules, store_start)

pub store_block-requires : goal.store_block-requires
store_block-requires c = search (rules, store_room, taken_data)

pub after-at-requires : goal.after-at-requires
after-at-requires c = search (rules, store_low, taken_data)

pub loop-d-smaller : goal.loop-d-smaller
loop-d-smaller c = search (rules, stands_less, taken_data)

pub loop-d-preserved : goal.loop-d-preserved
loop-d-preserved c = search (rules, store_more, taken_data)

pub returns : goal.returns
returns c = search (rules, store_end)
