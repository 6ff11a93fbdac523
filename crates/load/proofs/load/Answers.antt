-- `load::load` meets its contract: one law for the answer and one for the RAM, for each way out.
use mathlib.Core.Path.{sym, ◌∙◌}
use Rattle.std.proofs.lemmas.Result.{err_from_is_err_and}
use Rattle.load.proofs.Theorems.Passes.{front_answers, front_keeps, checked_enough, checked_tabled, done_answer, done_ram}
use Rattle.load.proofs.load.Goals as goal

pub returns-in_err-found : goal.returns-in_err-found
returns-in_err-found c =
    let p = err_from_is_err_and c.from_residual.result c.from_residual.ensures.1 in
    let e = sym c.check.ensures ∙ c.in_err-found.was in
    let m = c.lent_words.ensures.0 in
    rw (p.1, p.2) (rw (← m) (front_answers _ _ _ e _), front_keeps _ _ _ e _ _ m)

pub finish-requires : goal.finish-requires
finish-requires c = let e = sym c.check.ensures ∙ c.in_ok-found.was in (checked_enough _ _ _ e, checked_tabled _ _ _ e)

pub returns : goal.returns
returns c =
    let e = sym c.check.ensures ∙ c.in_ok-found.was in
    let m = c.lent_words.ensures.0 in
    (rw (← m) (done_answer _ _ _ e _ _ (rw (← m) at c.finish.ensures.0)), done_ram _ _ _ e _ _ _ m c.finish.ensures.1)
