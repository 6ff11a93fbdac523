-- `sheet::put_sections` meets its contract: one section after the other.
use borrow.Author.Rules.{rules}
use Rattle.sheet.proofs.Loops.{sections_put}
use Rattle.sheet.proofs.put_sections.Goals as goal

pub returns-clause-bytes : goal.returns-clause-bytes
returns-clause-bytes c = search (rules, sections_put)
