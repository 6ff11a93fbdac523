-- `hunk::choice::form_for` meets its contract: by the largest word but the last.
use borrow.Author.Rules.{rules}
use Rattle.hunk.proofs.Chosen.{form_chosen}
use Rattle.hunk.proofs.choice.form_for.Goals as goal

pub returns : goal.returns
returns c = search (rules, form_chosen)
