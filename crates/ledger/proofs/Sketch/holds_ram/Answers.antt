-- `ledger::Sketch::holds_ram` meets its contract. The loop's invariant: it is known whether one of the first x chapters has RAM there.
use borrow.Author.Rules.{rules}
use Rattle.basics.specs.Laws.Joined.{somewhere_none, somewhere_by}
use Rattle.ledger.proofs.Housing.{rams_all}
use Rattle.ledger.proofs.Sketch.holds_ram.Goals as goal

pub loop-x-init : goal.loop-x-init
loop-x-init c = search (rules, somewhere_none)

pub loop-x-preserved : goal.loop-x-preserved
loop-x-preserved c = search (rules, somewhere_by)

pub returns : goal.returns
returns c = search (rules, rams_all)
