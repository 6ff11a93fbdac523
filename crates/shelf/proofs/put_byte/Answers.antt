-- `shelf::put_byte` meets its contract: one law for each return.
use Rattle.std.proofs.Common.{rules, tests}
use Rattle.shelf.proofs.Laws.{byte_two, byte_one, byte_four}
use Rattle.shelf.proofs.put_byte.Goals as goal

pub returns-then-b-eq-BACKSLASH : goal.returns-then-b-eq-BACKSLASH
returns-then-b-eq-BACKSLASH c = byte_two _ _ _ c.if-b-eq-BACKSLASH.true c.put_bytes.ensures

pub returns-then-contains : goal.returns-then-contains
returns-then-contains c = let h = c.if-contains.ensures.cases in byte_one _ _ _ c.if-b-eq-BACKSLASH.false (search (rules, tests)) (search (rules, tests)) c.put_bytes-then-contains.ensures

pub returns : goal.returns
returns c = let h = c.if-contains.ensures.cases in byte_four _ _ _ c.if-b-eq-BACKSLASH.false (search (rules, tests)) _ c.by_digits.ensures c.put_bytes-2.ensures
