-- `recovery::drops` meets its contract. The invariant: the places before p are listed.
use Rattle.recovery.proofs.Laws.{frame_later, frame_inside}
use Rattle.recovery.proofs.Loops.{list_start, list_same, list_all, list_less, list_fit, list_none, list_one}
use borrow.Author.Rules.{rules}
use Rattle.recovery.proofs.drops.Goals as goal

pub loop-q-init : goal.loop-q-init
loop-q-init c = search (rules, list_start)

pub slice_bounds-is_left_out-count : goal.slice_bounds-is_left_out-count
slice_bounds-is_left_out-count c = search (rules, frame_later)

pub slice_bounds-is_left_out-start : goal.slice_bounds-is_left_out-start
slice_bounds-is_left_out-start c = search (rules, frame_later)

pub slice_bounds-is_left_out-end : goal.slice_bounds-is_left_out-end
slice_bounds-is_left_out-end c = search (rules, frame_inside)

pub overflow_add-n : goal.overflow_add-n
overflow_add-n c = search (rules, list_fit)

pub loop-q-smaller-then-is_left_out : goal.loop-q-smaller-then-is_left_out
loop-q-smaller-then-is_left_out c = search (rules, list_less)

pub loop-q-preserved-then-is_left_out : goal.loop-q-preserved-then-is_left_out
loop-q-preserved-then-is_left_out c = search (rules, list_one)

pub loop-q-smaller : goal.loop-q-smaller
loop-q-smaller c = search (rules, list_less)

pub loop-q-preserved : goal.loop-q-preserved
loop-q-preserved c = search (rules, list_none)

pub shape_of-places : goal.shape_of-places
shape_of-places c = search (rules, list_same)

pub returns : goal.returns
returns c = list_all _ _ _ _ _ c.loop-q.invariant _ c.frame_at.ensures c.in_default.not-Framed
