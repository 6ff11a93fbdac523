-- `rules::shape::is_misshapen` meets its contract, by the layer.
use borrow.Author.Rules.{rules}
use Rattle.rules.proofs.Tests.{misshapen_plain, misshapen_large, misshapen_page}
use Rattle.rules.proofs.shape.is_misshapen.Goals as goal

pub returns-then-t-eq0 : goal.returns-then-t-eq0
returns-then-t-eq0 c = search (rules, misshapen_plain)

pub returns-then-t-gt-CHAPTER_PAGES : goal.returns-then-t-gt-CHAPTER_PAGES
returns-then-t-gt-CHAPTER_PAGES c = search (rules, misshapen_large)

pub returns-else-t-gt-CHAPTER_PAGES : goal.returns-else-t-gt-CHAPTER_PAGES
returns-else-t-gt-CHAPTER_PAGES c = search (rules, misshapen_page)
