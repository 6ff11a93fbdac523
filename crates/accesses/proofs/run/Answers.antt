-- `accesses::run` meets its contract: a law for each refusal, and one for the run, of what the checking pass found.
use borrow.Author.Rules.{rules}
use Rattle.accesses.proofs.Answers.{answer-33, answers-29, runnable, answers-run}
use Rattle.accesses.proofs.run.Goals as goal

pub returns-in-Err : goal.returns-in-Err
returns-in-Err c = answer-33 _ _ _ _ _ _ _ _ _ c.check_lines.ensures (search rules) c.refused.ensures

pub returns-in-Ok : goal.returns-in-Ok
returns-in-Ok c = search (rules, answers-29)

pub run_lines-requires : goal.run_lines-requires
run_lines-requires c = search (rules, runnable)

pub returns-in-Ok-2 : goal.returns-in-Ok-2
returns-in-Ok-2 c = search (rules, answers-run)
