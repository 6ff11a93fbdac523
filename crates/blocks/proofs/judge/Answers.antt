-- `blocks::judge` meets its contract: a block that no row before 9 refuses, by its hunk's check.
use borrow.Author.Rules.{rules}
use Rattle.blocks.proofs.Laws.{judge_9}
use Rattle.blocks.proofs.judge.Goals as goal

pub returns : goal.returns
returns c = search (rules, judge_9)
