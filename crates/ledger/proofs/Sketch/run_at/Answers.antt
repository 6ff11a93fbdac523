-- `ledger::Sketch::run_at` meets its contract. The loop's invariant: the first n paragraphs are of one kind.
use borrow.Author.Rules.{rules}
use Rattle.ledger.proofs.Loops.{reach_ends, reach_more, reach_none}
use Rattle.ledger.proofs.Sketch.run_at.Goals as goal

pub loop-n-init : goal.loop-n-init
loop-n-init c = reach_none c.args.self.now.kinds c.args.self.now.pages c.args.p

pub loop-n-preserved : goal.loop-n-preserved
loop-n-preserved c = search (rules, reach_more)

pub returns-then-self-p : goal.returns-then-self-p
returns-then-self-p c = search (rules, reach_ends)
