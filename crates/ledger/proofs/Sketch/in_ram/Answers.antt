-- `ledger::Sketch::in_ram` meets its contract, by what its callees ensure.
use borrow.Author.Rules.{rules}
use Rattle.ledger.proofs.Housing.{ram_in_lem}
use Rattle.ledger.proofs.Sketch.in_ram.Goals as goal

pub returns : goal.returns
returns c = search (rules, ram_in_lem)
