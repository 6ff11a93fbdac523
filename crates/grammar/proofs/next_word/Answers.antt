-- `grammar::next_word` meets its contract: a law for each kind of byte that stands where the blanks end.
use mathlib.Core.Logic.{⊎_elim}
use Rattle.grammar.proofs.Words.{no_word, blank_word, sign_word, comment_word, letter_word}
use Rattle.grammar.proofs.next_word.Goals as goal

pub returns-then-line-start : goal.returns-then-line-start
returns-then-line-start c = search no_word

pub returns-in-Sign : goal.returns-in-Sign
returns-in-Sign c = search sign_word

pub returns-in-Letter : goal.returns-in-Letter
returns-in-Letter c = search letter_word

pub returns-in-Blank : goal.returns-in-Blank
returns-in-Blank c = ⊎_elim (λ e. search blank_word) (λ e. search comment_word) c.in-Blank.is
