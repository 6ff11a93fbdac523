-- `text::same_text` meets its contract.
use borrow.Author.Rules.{rules}
use Rattle.text.proofs.Spelling.{same_bytes}
use Rattle.text.proofs.same_text.Goals as goal

pub returns : goal.returns
returns c = search (rules, same_bytes)
