-- `ledger::Sketch::page_place` meets its contract, by what its callees ensure.
use borrow.Author.Rules.{rules}
use Rattle.ledger.proofs.Housing.{page_place_lem}
use Rattle.ledger.proofs.Sketch.page_place.Goals as goal

pub returns : goal.returns
returns c = search (rules, page_place_lem)
