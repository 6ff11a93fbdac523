-- `rules::line_fault` meets its contract. The loop's invariant: the lines before line k pass 25 and 26.
use Rattle.std.proofs.lemmas.Result.{err_from_is_err_and}
use Rattle.rules.proofs.Checked.{checked_none, checked_hit, checked_more, checked_all}
use Rattle.rules.proofs.line_fault.Goals as goal

pub loop-l-init : goal.loop-l-init
loop-l-init c = search checked_none

pub returns-in_err-fault_of : goal.returns-in_err-fault_of
returns-in_err-fault_of c =
    let p = err_from_is_err_and c.from_residual.result c.from_residual.ensures.1 in
    rw (p.1, p.2) (search (checked_hit, c.in_err-fault_of.was))

pub loop-l-preserved : goal.loop-l-preserved
loop-l-preserved c = search (checked_more, c.in_ok-fault_of.was)

pub returns : goal.returns
returns c = search checked_all
