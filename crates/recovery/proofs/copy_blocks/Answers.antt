-- `recovery::copy_blocks` meets its contract. The invariant: the kept blocks before p are written.
use Rattle.recovery.proofs.Laws.{frame_later, frame_inside}
use Rattle.recovery.proofs.Loops.{copy_start, copy_all, copy_same, copy_less, copy_within, copy_next, copy_none, copy_room, copy_fit, copy_one}
use borrow.Author.Rules.{rules}
use Rattle.recovery.proofs.copy_blocks.Goals as goal

pub loop-q-init : goal.loop-q-init
loop-q-init c = search (rules, copy_start)

pub bounds-notes-n : goal.bounds-notes-n
bounds-notes-n c = search (rules, copy_within)

pub overflow_add-n : goal.overflow_add-n
overflow_add-n c = search (rules, copy_next)

pub overflow_sub-e : goal.overflow_sub-e
overflow_sub-e c = search (rules, frame_later)

pub overflow_add-e : goal.overflow_add-e
overflow_add-e c = search (rules, copy_fit)

pub slice_bounds-put_bytes-end : goal.slice_bounds-put_bytes-end
slice_bounds-put_bytes-end c = search (rules, copy_room)

pub slice_bounds-put_bytes-count-then-not-left_out : goal.slice_bounds-put_bytes-count-then-not-left_out
slice_bounds-put_bytes-count-then-not-left_out c = search (rules, frame_later)

pub slice_bounds-put_bytes-start-then-not-left_out : goal.slice_bounds-put_bytes-start-then-not-left_out
slice_bounds-put_bytes-start-then-not-left_out c = search (rules, frame_later)

pub slice_bounds-put_bytes-end-then-not-left_out : goal.slice_bounds-put_bytes-end-then-not-left_out
slice_bounds-put_bytes-end-then-not-left_out c = search (rules, frame_inside)

pub loop-q-smaller-then-not-left_out : goal.loop-q-smaller-then-not-left_out
loop-q-smaller-then-not-left_out c = search (rules, copy_less)

pub loop-q-preserved-then-not-left_out : goal.loop-q-preserved-then-not-left_out
loop-q-preserved-then-not-left_out c = search (rules, copy_one)

pub loop-q-smaller : goal.loop-q-smaller
loop-q-smaller c = search (rules, copy_less)

pub loop-q-preserved : goal.loop-q-preserved
loop-q-preserved c = search (rules, copy_none)

pub shape_of-out : goal.shape_of-out
shape_of-out c = search (rules, copy_same)

pub returns : goal.returns
returns c = copy_all _ _ _ _ _ _ c.loop-q.invariant _ c.frame_at.ensures c.requires.1 c.in_default.not-Framed
