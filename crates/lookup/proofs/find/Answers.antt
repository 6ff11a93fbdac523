-- `lookup::find` meets its contract: refused, or what was found.
use Rattle.std.proofs.Common.{◌≡◌, rules, Err}
use Rattle.std.proofs.lemmas.Result.{err_from_is_err_and}
use Rattle.lookup.proofs.Laws.{finds}
use Rattle.lookup.proofs.find.Goals as goal

pub returns-in_err-refusal_of : goal.returns-in_err-refusal_of
returns-in_err-refusal_of c =
    let p = err_from_is_err_and c.from_residual.result c.from_residual.ensures.1 in
    let e : c.refusal_of.result ≡ Err c.in_err-refusal_of.field-0.0 = c.in_err-refusal_of.was in
    rw (p.1, p.2) (search (rules, finds))

pub returns : goal.returns
returns c = search (rules, finds)
