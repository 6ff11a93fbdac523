-- `load::step_at` meets its contract: one law for each way out.
use Rattle.load.proofs.Laws.{steps, place_fits, frame_later, frame_inside}
use borrow.Author.Rules.{rules}
use Rattle.load.proofs.step_at.Goals as goal

pub slice_bounds-judge-count : goal.slice_bounds-judge-count
slice_bounds-judge-count c = search (rules, frame_later)

pub slice_bounds-judge-start : goal.slice_bounds-judge-start
slice_bounds-judge-start c = search (rules, frame_later)

pub slice_bounds-judge-end : goal.slice_bounds-judge-end
slice_bounds-judge-end c = search (rules, frame_inside)

pub overflow_add-p : goal.overflow_add-p
overflow_add-p c = let own = c.judge.ensures.1 c.requires in search (rules, place_fits)

pub returns-in-Over : goal.returns-in-Over
returns-in-Over c = search (rules, steps)

pub returns-in-Cut : goal.returns-in-Cut
returns-in-Cut c = search (rules, steps)

pub returns-in-Err : goal.returns-in-Err
returns-in-Err c = let own = c.judge.ensures.1 c.requires in search (rules, steps)

pub returns-in-Ok : goal.returns-in-Ok
returns-in-Ok c = let own = c.judge.ensures.1 c.requires in search (rules, steps)
