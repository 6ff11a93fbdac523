-- `ledger::Found::new` meets its contract: blank lines.
use Rattle.ledger.specs.Laws.Lists.{shown_none}
use mathlib.Core.Path.{refl}
use Rattle.ledger.proofs.Found.new.Goals as goal

pub returns : goal.returns
returns c = shown_none _ refl
