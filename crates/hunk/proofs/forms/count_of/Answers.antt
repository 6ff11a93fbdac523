-- `hunk::forms::count_of` meets its contract: each arm is the definition's.
use borrow.Author.Rules.{rules}
use Rattle.hunk.proofs.ByForm.{from_decles, from_words}
use Rattle.hunk.proofs.forms.count_of.Goals as goal

pub overflow_sub-result : goal.overflow_sub-result
overflow_sub-result c = search (rules, from_decles)

pub overflow_sub-result-in-Words : goal.overflow_sub-result-in-Words
overflow_sub-result-in-Words c = search (rules, from_words)
