-- `recovery::survey` meets its contract. The invariant: the blocks before p are surveyed and noted.
use mathlib.Core.Path.{sym, ap, ◌∙◌}
use Prim.Native.Nat.{◌≤◌}
use lib.ListN.{length}
use Rattle.std.specs.Prelude.{Ok}
use Rattle.std.proofs.lemmas.Result.{err_from_is_err_and}
use Rattle.recovery.proofs.Loops.{survey_start, survey_end, survey_noted, survey_no, keep_later, keep_inside, keep_turn, keep_room, keep_more, keep_less, keep_fit, long_fit, drop_turn, drop_room, drop_more, drop_less, drop_fit}
use borrow.Author.Rules.{rules}
use Rattle.recovery.proofs.survey.Goals as goal

pub loop-stopped-init : goal.loop-stopped-init
loop-stopped-init c = search (rules, survey_start)

pub returns-in_err-stopped : goal.returns-in_err-stopped
returns-in_err-stopped c =
    let p = err_from_is_err_and c.from_residual.result c.from_residual.ensures.1 in
    rw (p.1, p.2) (survey_no _ _ _ _ _ _ _ _ c.loop-stopped.invariant _ c.is_some.ensures _ (sym c.step_at.ensures ∙ c.in_err-stopped.was), λ found e. cc)

pub returns-in-Stops : goal.returns-in-Stops
returns-in-Stops c = (survey_end _ _ _ _ _ _ _ _ c.loop-stopped.invariant _ c.is_some.ensures _ (sym c.step_at.ensures ∙ c.in_ok-stopped.was ∙ ap Ok c.in-Stops.is) _ c.ended.ensures, λ found e. survey_noted _ _ _ _ _ _ _ _ c.loop-stopped.invariant _ c.is_some.ensures _ (sym c.step_at.ensures ∙ c.in_ok-stopped.was ∙ ap Ok c.in-Stops.is))

pub overflow_add-notes : goal.overflow_add-notes
overflow_add-notes c = keep_turn _ _ _ _ _ _ _ _ c.loop-stopped.invariant _ c.is_some.ensures _ _ (sym c.step_at.ensures ∙ c.in_ok-stopped.was ∙ ap Ok c.in-Keeps.is) (search rules)

pub bounds-notes-kept : goal.bounds-notes-kept
bounds-notes-kept c = keep_room _ _ _ _ _ _ _ _ c.loop-stopped.invariant _ c.is_some.ensures _ _ (sym c.step_at.ensures ∙ c.in_ok-stopped.was ∙ ap Ok c.in-Keeps.is) c.requires.2

pub slice_bounds-late_after-count : goal.slice_bounds-late_after-count
slice_bounds-late_after-count c = keep_later _ _ _ _ _ _ _ _ c.loop-stopped.invariant _ c.is_some.ensures _ _ (sym c.step_at.ensures ∙ c.in_ok-stopped.was ∙ ap Ok c.in-Keeps.is)

pub slice_bounds-late_after-start : goal.slice_bounds-late_after-start
slice_bounds-late_after-start c = keep_later _ _ _ _ _ _ _ _ c.loop-stopped.invariant _ c.is_some.ensures _ _ (sym c.step_at.ensures ∙ c.in_ok-stopped.was ∙ ap Ok c.in-Keeps.is)

pub slice_bounds-late_after-end : goal.slice_bounds-late_after-end
slice_bounds-late_after-end c =
    let h : c.in-Keeps.q ≤ length c.args.s.now = keep_inside _ _ _ _ _ _ _ _ c.loop-stopped.invariant _ c.is_some.ensures _ _ (sym c.step_at.ensures ∙ c.in_ok-stopped.was ∙ ap Ok c.in-Keeps.is) in
    search rules

pub overflow_sub-long : goal.overflow_sub-long
overflow_sub-long c = keep_later _ _ _ _ _ _ _ _ c.loop-stopped.invariant _ c.is_some.ensures _ _ (sym c.step_at.ensures ∙ c.in_ok-stopped.was ∙ ap Ok c.in-Keeps.is)

pub overflow_add-kept : goal.overflow_add-kept
overflow_add-kept c = keep_fit _ _ _ _ _ _ _ _ c.loop-stopped.invariant _ c.is_some.ensures _ _ (sym c.step_at.ensures ∙ c.in_ok-stopped.was ∙ ap Ok c.in-Keeps.is) (search rules)

pub overflow_add-long : goal.overflow_add-long
overflow_add-long c = long_fit _ _ _ _ _ _ _ _ c.loop-stopped.invariant _ c.is_some.ensures _ _ (sym c.step_at.ensures ∙ c.in_ok-stopped.was ∙ ap Ok c.in-Keeps.is) (search rules)

pub loop-stopped-smaller-in-Keeps : goal.loop-stopped-smaller-in-Keeps
loop-stopped-smaller-in-Keeps c = keep_less _ _ _ _ _ _ _ _ c.loop-stopped.invariant _ c.is_some.ensures _ _ (sym c.step_at.ensures ∙ c.in_ok-stopped.was ∙ ap Ok c.in-Keeps.is)

pub loop-stopped-preserved-in-Keeps : goal.loop-stopped-preserved-in-Keeps
loop-stopped-preserved-in-Keeps c = keep_more _ _ _ _ _ _ _ _ c.loop-stopped.invariant _ c.is_some.ensures _ _ (sym c.step_at.ensures ∙ c.in_ok-stopped.was ∙ ap Ok c.in-Keeps.is) c.requires.2 _ (rw c.flags_of-flags.ensures at c.late_after-late.ensures)

pub overflow_add-notes-in-Drops : goal.overflow_add-notes-in-Drops
overflow_add-notes-in-Drops c = drop_turn _ _ _ _ _ _ _ _ c.loop-stopped.invariant _ c.is_some.ensures _ (sym c.step_at.ensures ∙ c.in_ok-stopped.was ∙ ap Ok c.in-Drops.is) (search rules)

pub bounds-notes-kept-in-Drops : goal.bounds-notes-kept-in-Drops
bounds-notes-kept-in-Drops c = drop_room _ _ _ _ _ _ _ _ c.loop-stopped.invariant _ c.is_some.ensures _ (sym c.step_at.ensures ∙ c.in_ok-stopped.was ∙ ap Ok c.in-Drops.is) c.requires.2

pub overflow_add-dropped : goal.overflow_add-dropped
overflow_add-dropped c = drop_fit _ _ _ _ _ _ _ _ c.loop-stopped.invariant _ c.is_some.ensures _ (sym c.step_at.ensures ∙ c.in_ok-stopped.was ∙ ap Ok c.in-Drops.is) (search rules)

pub loop-stopped-smaller : goal.loop-stopped-smaller
loop-stopped-smaller c = drop_less _ _ _ _ _ _ _ _ c.loop-stopped.invariant _ c.is_some.ensures _ (sym c.step_at.ensures ∙ c.in_ok-stopped.was ∙ ap Ok c.in-Drops.is)

pub loop-stopped-preserved : goal.loop-stopped-preserved
loop-stopped-preserved c = drop_more _ _ _ _ _ _ _ _ c.loop-stopped.invariant _ c.is_some.ensures _ (sym c.step_at.ensures ∙ c.in_ok-stopped.was ∙ ap Ok c.in-Drops.is) c.requires.2
