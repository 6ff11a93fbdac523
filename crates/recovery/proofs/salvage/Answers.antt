-- `recovery::salvage` meets its contract: one law for the answer and one for the buffer, for each way out.
use mathlib.Core.Path.{sym, ◌∙◌}
use Rattle.std.proofs.lemmas.Result.{err_from_is_err_and}
use Rattle.recovery.proofs.Answers.{head_answers, head_keeps, head-enough, head-room, denied-answers, denied-keeps, went-found, went-answers, went-written}
use borrow.Author.Rules.{rules}
use Rattle.recovery.proofs.salvage.Goals as goal

pub returns-in_err-check : goal.returns-in_err-check
returns-in_err-check c =
    let p = err_from_is_err_and c.from_residual.result c.from_residual.ensures.1 in
    let e = sym c.check.ensures ∙ c.in_err-check.was in
    rw (p.1, p.2) (head_answers _ _ _ e, head_keeps _ _ _ e)

pub survey-requires : goal.survey-requires
survey-requires c =
    let h = sym c.check.ensures ∙ c.in_ok-check.was in
    (search rules, head-enough c.args.out.now _ _ h, search (rules, head-room c.args.out.now c.args.image.now c.in_ok-check.field-0 h))

pub returns-in_err-found : goal.returns-in_err-found
returns-in_err-found c =
    let p = err_from_is_err_and c.from_residual-in_err-found.result c.from_residual-in_err-found.ensures.1 in
    let h = sym c.check.ensures ∙ c.in_ok-check.was in
    let e = sym c.survey.ensures.0 ∙ c.in_err-found.was in
    rw (p.1, p.2) (denied-answers _ _ _ h _ e, denied-keeps _ _ _ h _ e)

pub finish-requires : goal.finish-requires
finish-requires c =
    let h = sym c.check.ensures ∙ c.in_ok-check.was in
    let e = sym c.survey.ensures.0 ∙ c.in_ok-found.was in
    (c.survey.ensures.1 _ c.in_ok-found.was, head-enough c.args.out.now _ _ h, went-found c.args.out.now _ _ h _ e)

pub returns : goal.returns
returns c =
    let h = sym c.check.ensures ∙ c.in_ok-check.was in
    let e = sym c.survey.ensures.0 ∙ c.in_ok-found.was in
    (went-answers _ _ _ h _ e _ c.finish.ensures.0, went-written _ _ _ h _ e _ c.finish.ensures.1)
