-- `grammar::hex` meets its contract. The invariant: n is what the digits passed make, and what is left goes on from n.
use borrow.Author.Rules.{rules}
use Rattle.grammar.proofs.Numbers.{hex_other, sum_fits, hex_grows, hex_digit, hex_end}
use Rattle.grammar.proofs.hex.Goals as goal

pub returns-then-d-eq16 : goal.returns-then-d-eq16
returns-then-d-eq16 c = search hex_other

pub overflow_add-n : goal.overflow_add-n
overflow_add-n c = search (rules, sum_fits)

pub loop-b-preserved : goal.loop-b-preserved
loop-b-preserved c = search (rules, hex_grows, hex_digit)

pub returns : goal.returns
returns c = search hex_end
