-- `lookup::refusal_of` meets its contract: one law for each return.
use mathlib.Core.Path.{sym, ◌∙◌}
use Rattle.std.proofs.lemmas.Result.{err_from_is_err_and}
use Rattle.lookup.proofs.Laws.{refuses_image, refuses_label, refuses_none}
use Rattle.lookup.proofs.refusal_of.Goals as goal

pub returns-in_err-refusal_for : goal.returns-in_err-refusal_for
returns-in_err-refusal_for c =
    let p = err_from_is_err_and c.from_residual.result c.from_residual.ensures.1 in
    rw (p.1, p.2) (refuses_image _ _ _ (sym c.refusal_for.ensures ∙ c.in_err-refusal_for.was))

pub returns-then-is_cut : goal.returns-then-is_cut
returns-then-is_cut c =
    refuses_label _ _ _ (sym c.refusal_for.ensures ∙ c.in_ok-refusal_for.was) _ c.is_cut.ensures c.if-is_cut.true _ c.refuse.ensures

pub returns : goal.returns
returns c = refuses_none _ _ _ (sym c.refusal_for.ensures ∙ c.in_ok-refusal_for.was) _ c.is_cut.ensures c.if-is_cut.false
