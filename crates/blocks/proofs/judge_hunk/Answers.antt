-- `blocks::judge_hunk` meets its contract: a hunk breaks within its block.
use borrow.Author.Rules.{rules}
use Rattle.blocks.proofs.Laws.{break_fits}
use Rattle.blocks.proofs.judge_hunk.Goals as goal

pub overflow_add-k : goal.overflow_add-k
overflow_add-k c = search (rules, break_fits)
