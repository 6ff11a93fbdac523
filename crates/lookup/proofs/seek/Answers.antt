-- `lookup::seek` meets its contract. The loop's invariant: the blocks before have too few texts, and so many are still to be passed.
use Rattle.std.proofs.Common.{rules}
use Rattle.lookup.proofs.Laws.{seeks}
use Rattle.lookup.proofs.seek.Goals as goal

pub loop-t-init : goal.loop-t-init
loop-t-init c = search (rules, seeks)

pub slice_bounds-seek_block-count : goal.slice_bounds-seek_block-count
slice_bounds-seek_block-count c = search (rules, seeks)

pub slice_bounds-seek_block-start : goal.slice_bounds-seek_block-start
slice_bounds-seek_block-start c = search (rules, seeks)

pub slice_bounds-seek_block-end : goal.slice_bounds-seek_block-end
slice_bounds-seek_block-end c = search (rules, seeks)

pub overflow_add-result : goal.overflow_add-result
overflow_add-result c = search (rules, seeks)

pub overflow_add-result-in-Ok : goal.overflow_add-result-in-Ok
overflow_add-result-in-Ok c = search (rules, seeks)

pub overflow_add-result-in-Ok-2 : goal.overflow_add-result-in-Ok-2
overflow_add-result-in-Ok-2 c = search (rules, seeks)

pub overflow_add-result-in-Ok-3 : goal.overflow_add-result-in-Ok-3
overflow_add-result-in-Ok-3 c = search (rules, seeks)

pub returns-in-Ok : goal.returns-in-Ok
returns-in-Ok c = search (rules, seeks)

pub loop-t-smaller : goal.loop-t-smaller
loop-t-smaller c = search (rules, seeks)

pub loop-t-preserved : goal.loop-t-preserved
loop-t-preserved c = search (rules, seeks)

pub returns : goal.returns
returns c = let h = c.in_default.not-Framed in search (rules, seeks)
