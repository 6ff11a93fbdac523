-- `report::answer` meets its contract: 30, or what a load answers.
use Rattle.std.proofs.lemmas.Result.{err_from_is_err_and}
use Rattle.report.proofs.Laws.{too_long_lem, too_long_ram, denied, loaded, loaded_ram}
use Rattle.report.proofs.answer.Goals as goal

pub returns-then-image-gt-CARD_LIMIT : goal.returns-then-image-gt-CARD_LIMIT
returns-then-image-gt-CARD_LIMIT c = (too_long_lem _ _ c.if-image-gt-CARD_LIMIT.true _ c.refuse.ensures, too_long_ram _ _ c.if-image-gt-CARD_LIMIT.true)

pub returns-in_err-l : goal.returns-in_err-l
returns-in_err-l c =
    let p = err_from_is_err_and c.from_residual.result c.from_residual.ensures.1 in
    rw (p.1, p.2) (denied _ _ c.if-image-gt-CARD_LIMIT.false _ c.load.ensures.0 _ c.in_err-l.was, loaded_ram _ _ c.if-image-gt-CARD_LIMIT.false _ c.load.ensures.1)

pub returns : goal.returns
returns c = (loaded _ _ c.if-image-gt-CARD_LIMIT.false _ c.load.ensures.0 _ c.in_ok-l.was, loaded_ram _ _ c.if-image-gt-CARD_LIMIT.false _ c.load.ensures.1)
