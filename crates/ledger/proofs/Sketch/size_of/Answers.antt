-- `ledger::Sketch::size_of` meets its contract, by what its callees ensure.
use borrow.Author.Rules.{rules}
use Rattle.ledger.proofs.Housing.{size_is}
use Rattle.ledger.proofs.Sketch.size_of.Goals as goal

pub returns : goal.returns
returns c = search (rules, size_is)
