-- `rules::judge` meets its contract: 25 and 26, then 27, then 28.
use Rattle.std.proofs.lemmas.Result.{err_from_is_err_and}
use Rattle.rules.proofs.Parts.{lines_allowed, judged_lines, judged_shares, judged_chapters}
use Rattle.rules.proofs.judge.Goals as goal

pub returns-in_err-line_fault : goal.returns-in_err-line_fault
returns-in_err-line_fault c =
    let p = err_from_is_err_and c.from_residual.result c.from_residual.ensures.1 in
    rw (p.1, p.2) (judged_lines _ _ _ c.line_fault.ensures _ c.in_err-line_fault.was)

pub first_clash-requires : goal.first_clash-requires
first_clash-requires c = lines_allowed _ _ _ c.line_fault.ensures _ c.in_ok-line_fault.was

pub returns-in_err-owners : goal.returns-in_err-owners
returns-in_err-owners c =
    let p = err_from_is_err_and c.from_residual-in_err-owners.result c.from_residual-in_err-owners.ensures.1 in
    rw (p.1, p.2) (judged_shares _ _ _ c.line_fault.ensures _ c.in_ok-line_fault.was _ c.first_clash.ensures.clash _ c.in_err-owners.was)

pub returns : goal.returns
returns c = search (judged_chapters, c.in_ok-line_fault.was, c.in_ok-owners.was)
