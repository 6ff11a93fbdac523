-- `save::judge` meets its contract: one law for each row, in the order of the rows.
use mathlib.Core.Path.{sym, ◌∙◌}
use Rattle.std.proofs.lemmas.Result.{err_from_is_err_and}
use Rattle.save.proofs.Laws.{judge_tables, judge_9, judge_1, judge_29, judge_none}
use Rattle.save.proofs.judge.Goals as goal

pub returns-in_err-refused : goal.returns-in_err-refused
returns-in_err-refused c =
    let p = err_from_is_err_and c.from_residual.result c.from_residual.ensures.1 in
    rw (p.1, p.2) (judge_tables _ _ _ _ _ _ _ c.flash_words.ensures _ (sym c.refused.ensures ∙ c.in_err-refused.was))

pub returns-then-first-lt-LOCUTUS_PARAGRAPHS : goal.returns-then-first-lt-LOCUTUS_PARAGRAPHS
returns-then-first-lt-LOCUTUS_PARAGRAPHS c =
    judge_9 _ _ _ _ _ _ _ c.flash_words.ensures _ (sym c.refused.ensures ∙ c.in_ok-refused.was) _ c.lowest_past-first.ensures c.if-first-lt-LOCUTUS_PARAGRAPHS.true _ c.refuse.ensures

pub returns-then-long-gt-IMAGE_LIMIT : goal.returns-then-long-gt-IMAGE_LIMIT
returns-then-long-gt-IMAGE_LIMIT c =
    judge_1 _ _ _ _ _ _ _ c.flash_words.ensures _ (sym c.refused.ensures ∙ c.in_ok-refused.was) _ c.lowest_past-first.ensures c.if-first-lt-LOCUTUS_PARAGRAPHS.false
    c.if-long-gt-IMAGE_LIMIT.true _ c.refuse-then-long-gt-IMAGE_LIMIT.ensures

pub returns-then-room-long : goal.returns-then-room-long
returns-then-room-long c =
    judge_29 _ _ _ _ _ _ _ c.flash_words.ensures _ (sym c.refused.ensures ∙ c.in_ok-refused.was) _ c.lowest_past-first.ensures c.if-first-lt-LOCUTUS_PARAGRAPHS.false
    c.if-long-gt-IMAGE_LIMIT.false c.if-room-long.true _ c.refuse-then-room-long.ensures

pub returns : goal.returns
returns c =
    judge_none _ _ _ _ _ _ _ c.flash_words.ensures _ (sym c.refused.ensures ∙ c.in_ok-refused.was) _ c.lowest_past-first.ensures c.if-first-lt-LOCUTUS_PARAGRAPHS.false
    c.if-long-gt-IMAGE_LIMIT.false c.if-room-long.false
