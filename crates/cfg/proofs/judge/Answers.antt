-- `cfg::judge` meets its contract: each test is a row's.
use Rattle.cfg.proofs.Answers.{judge-outside, judge_none, judge-many, judge-all}
use Rattle.cfg.proofs.judge.Goals as goal

pub returns-in-Some : goal.returns-in-Some
returns-in-Some c = search judge-outside

pub returns-then-st-eq0 : goal.returns-then-st-eq0
returns-then-st-eq0 c = search judge_none

pub returns-in-Some-extra : goal.returns-in-Some-extra
returns-in-Some-extra c = search judge-many

pub returns : goal.returns
returns c = search judge-all
