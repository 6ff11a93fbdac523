-- `load::refusal_for` meets its contract: one law for each way out.
use mathlib.Core.Path.{sym, ◌∙◌}
use Rattle.std.proofs.lemmas.Result.{err_from_is_err_and}
use Rattle.load.proofs.Theorems.Passes.{front_stops, checked_enough, checked_tabled, done_stops}
use Rattle.load.proofs.refusal_for.Goals as goal

pub returns-in_err-found : goal.returns-in_err-found
returns-in_err-found c =
    let p = err_from_is_err_and c.from_residual.result c.from_residual.ensures.1 in
    rw (p.1, p.2) (front_stops _ _ _ (sym c.check.ensures ∙ c.in_err-found.was))

pub judge_tables-requires : goal.judge_tables-requires
judge_tables-requires c = let e = sym c.check.ensures ∙ c.in_ok-found.was in (checked_enough _ _ _ e, checked_tabled _ _ _ e)

pub returns : goal.returns
returns c = done_stops _ _ _ (sym c.check.ensures ∙ c.in_ok-found.was) _ c.judge_tables.ensures
