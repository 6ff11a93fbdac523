-- `rules::collides_with` meets its contract: nobody where 25 or 26 refuses, else the least owner that the first line that shares meets.
use mathlib.Core.Path.{◌∙◌, sym}
use Rattle.rules.proofs.Parts.{told_some, told_none, lines_allowed, rival_none, rival_found, rival_nobody}
use Rattle.rules.proofs.collides_with.Goals as goal

pub returns-in_err-ok : goal.returns-in_err-ok
returns-in_err-ok c =
    let t = told_none c.line_fault.result (sym c.ok.ensures.value ∙ c.in_err-ok.was) in
    c.from_residual.ensures ∙ rival_none _ _ _ c.line_fault.ensures t.0 t.1

pub first_clash-requires : goal.first_clash-requires
first_clash-requires c = lines_allowed _ _ _ c.line_fault.ensures _ (told_some _ _ (sym c.ok.ensures.value ∙ c.in_ok-ok.was))

pub returns-in-Ok : goal.returns-in-Ok
returns-in-Ok c =
    rival_nobody _ _ _ c.line_fault.ensures _ (told_some _ _ (sym c.ok.ensures.value ∙ c.in_ok-ok.was)) _ c.first_clash.ensures.clash _ c.in-Ok.is

pub returns-in-Err : goal.returns-in-Err
returns-in-Err c =
    rival_found _ _ _ c.line_fault.ensures _ (told_some _ _ (sym c.ok.ensures.value ∙ c.in_ok-ok.was)) _ c.first_clash.ensures.clash _ c.in-Err.is c.in-Err.ensures.named
