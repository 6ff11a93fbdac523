-- `grammar::read_line` meets its contract: no word, one word, or an entry by its section.
use Rattle.grammar.proofs.Entries.{no_words, one_word, more_words}
use Rattle.grammar.proofs.read_line.Goals as goal

pub returns-in-0 : goal.returns-in-0
returns-in-0 c = search no_words

pub returns-in-1 : goal.returns-in-1
returns-in-1 c = search one_word

pub returns-in-Some : goal.returns-in-Some
returns-in-Some c = search (more_words, c.in-Some.ensures)

pub returns-in-None : goal.returns-in-None
returns-in-None c = search (more_words, c.in-None.ensures)
