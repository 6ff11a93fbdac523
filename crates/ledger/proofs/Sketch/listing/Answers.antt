-- `ledger::Sketch::listing` meets its contract, by what its callees ensure.
use borrow.Author.Rules.{rules}
use Rattle.ledger.proofs.Gathers.{listing_is}
use Rattle.ledger.proofs.Sketch.listing.Goals as goal

pub returns : goal.returns
returns c = search (rules, listing_is)
