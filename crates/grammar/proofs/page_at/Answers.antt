-- `grammar::page_at` meets its contract: the word is found, and read if it is one byte.
use Rattle.grammar.proofs.Numbers.{page_long, page_other, page_digit, page_fits}
use Rattle.grammar.proofs.page_at.Goals as goal

pub returns-then-w-ne1 : goal.returns-then-w-ne1
returns-then-w-ne1 c = search page_long

pub returns-in_err-hex : goal.returns-in_err-hex
returns-in_err-hex c = search (page_other, c.in_err-hex.was)

pub overflow_cast-result : goal.overflow_cast-result
overflow_cast-result c = search (page_fits, c.in_ok-hex.was)

pub returns : goal.returns
returns c = search (page_digit, c.in_ok-hex.was)
