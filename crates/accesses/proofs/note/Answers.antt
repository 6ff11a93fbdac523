-- `accesses::note` meets its contract: nothing is noted, or a word at the next place.
use borrow.Author.Rules.{rules}
use Rattle.accesses.proofs.Steps.{nothing_next, nothing_noted, word_next, word_noted, word_fits}
use Rattle.accesses.proofs.note.Goals as goal

pub bounds-out-k : goal.bounds-out-k
bounds-out-k c = search (rules, word_fits)

pub returns-in-None : goal.returns-in-None
returns-in-None c = search (rules, nothing_next, nothing_noted)

pub returns-in-Some : goal.returns-in-Some
returns-in-Some c = search (rules, word_next, word_noted)
