-- `ledger::Sketch::has_plain` meets its contract. The loop's invariant: it is known whether one of the first k paragraphs is plain.
use borrow.Author.Rules.{rules}
use Rattle.basics.specs.Laws.Joined.{somewhere_none, somewhere_more}
use Rattle.ledger.proofs.Housing.{plains_all}
use Rattle.ledger.proofs.Sketch.has_plain.Goals as goal

pub loop-k-init : goal.loop-k-init
loop-k-init c = search (rules, somewhere_none)

pub loop-k-preserved : goal.loop-k-preserved
loop-k-preserved c = search (rules, somewhere_more)

pub returns : goal.returns
returns c = search (rules, plains_all)
