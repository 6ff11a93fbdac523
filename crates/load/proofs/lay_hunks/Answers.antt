-- `load::lay_hunks` meets its contract. The invariant: the hunks of the blocks before p are stored.
use Rattle.load.proofs.Laws.{frame_later, frame_inside}
use Rattle.load.proofs.Loops.{store_start, stored_all, stored_less, stored_more}
use borrow.Author.Rules.{rules}
use Rattle.load.proofs.lay_hunks.Goals as goal

pub loop-t-init : goal.loop-t-init
loop-t-init c = search (rules, store_start)

pub slice_bounds-store_block-count : goal.slice_bounds-store_block-count
slice_bounds-store_block-count c = search (rules, frame_later)

pub slice_bounds-store_block-start : goal.slice_bounds-store_block-start
slice_bounds-store_block-start c = search (rules, frame_later)

pub slice_bounds-store_block-end : goal.slice_bounds-store_block-end
slice_bounds-store_block-end c = search (rules, frame_inside)

pub loop-t-smaller : goal.loop-t-smaller
loop-t-smaller c = search (rules, stored_less)

pub loop-t-preserved : goal.loop-t-preserved
loop-t-preserved c = search (rules, stored_more)

pub returns : goal.returns
returns c = stored_all _ _ _ _ c.loop-t.invariant _ c.frame_at.ensures c.in_default.not-Framed
