-- `load::check_blocks` meets its contract. The invariant: the blocks before p refuse nothing, and were counted.
use mathlib.Core.Path.{sym, ap, ◌∙◌}
use Rattle.std.specs.Prelude.{Ok}
use Rattle.std.proofs.lemmas.Result.{err_from_is_err_and}
use Rattle.load.proofs.Loops.{check_start, check_end, check_no, check_more, check_less, blocks_fit, words_fit}
use borrow.Author.Rules.{rules}
use Rattle.load.proofs.check_blocks.Goals as goal

pub loop-next-init : goal.loop-next-init
loop-next-init c = search (rules, check_start)

pub returns-in_err-next : goal.returns-in_err-next
returns-in_err-next c =
    let p = err_from_is_err_and c.from_residual.result c.from_residual.ensures.1 in
    rw (p.1, p.2) (check_no _ _ _ _ _ _ c.loop-next.invariant _ (sym c.step_at.ensures ∙ c.in_err-next.was))

pub overflow_add-blocks : goal.overflow_add-blocks
overflow_add-blocks c = blocks_fit _ _ _ _ _ _ c.loop-next.invariant _ (sym c.step_at.ensures ∙ c.in_ok-next.was ∙ ap Ok c.in-Some.is) (search rules)

pub overflow_add-words : goal.overflow_add-words
overflow_add-words c = words_fit _ _ _ _ _ _ c.loop-next.invariant _ (sym c.step_at.ensures ∙ c.in_ok-next.was ∙ ap Ok c.in-Some.is) (search rules)

pub loop-next-smaller : goal.loop-next-smaller
loop-next-smaller c = check_less _ _ _ _ _ _ c.loop-next.invariant _ (sym c.step_at.ensures ∙ c.in_ok-next.was ∙ ap Ok c.in-Some.is)

pub loop-next-preserved : goal.loop-next-preserved
loop-next-preserved c = check_more _ _ _ _ _ _ c.loop-next.invariant _ (sym c.step_at.ensures ∙ c.in_ok-next.was ∙ ap Ok c.in-Some.is)

pub returns : goal.returns
returns c = check_end _ _ _ _ _ _ c.loop-next.invariant (sym c.step_at.ensures ∙ c.in_ok-next.was ∙ ap Ok c.in_default.is) _ c.ended.ensures
