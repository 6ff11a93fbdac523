-- `names::put_part` meets its contract: its three pieces, one behind the other.
use borrow.Author.Rules.{rules}
use Rattle.files.proofs.Parts.{pieces}
use Rattle.files.proofs.names.put_part.Goals as goal

pub returns : goal.returns
returns c = search (rules, pieces)
