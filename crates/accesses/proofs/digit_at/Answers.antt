-- `accesses::digit_at` meets its contract, by the byte that stands there.
use Rattle.std.proofs.Common.{rules, arith}
use Rattle.accesses.proofs.Lines.{no_digit, a_digit}
use Rattle.accesses.proofs.digit_at.Goals as goal

pub returns-then-d-eq16 : goal.returns-then-d-eq16
returns-then-d-eq16 c = search (rules, no_digit)

pub returns : goal.returns
returns c = (search (rules, a_digit), omega arith)
