-- `load::check` meets its contract: one law for each way out.
use mathlib.Core.Path.{sym, ◌∙◌}
use Rattle.std.proofs.lemmas.Result.{err_from_is_err_and}
use Rattle.load.proofs.Theorems.Passes.{check_head, check_walk}
use Rattle.load.proofs.check.Goals as goal

pub returns-in_err-check : goal.returns-in_err-check
returns-in_err-check c =
    let p = err_from_is_err_and c.from_residual.result c.from_residual.ensures.1 in
    rw (p.1, p.2) (check_head _ _ _ (sym c.check.ensures ∙ c.in_err-check.was))

pub returns : goal.returns
returns c = check_walk _ _ _ (sym c.check.ensures ∙ c.in_ok-check.was) _ c.check_blocks.ensures
