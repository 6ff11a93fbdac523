-- `layout::pour::copy` meets its contract. The loop's invariant: the first i words are the BIN's.
use borrow.Author.Rules.{rules}
use Rattle.basics.specs.Laws.Tables.{filled_none, filled_more, filled_all}
use Rattle.layout.proofs.Sources.{word_is}
use Rattle.layout.proofs.pour.copy.Goals as goal

pub loop-i-init : goal.loop-i-init
loop-i-init c = search (rules, filled_none)

pub loop-i-preserved : goal.loop-i-preserved
loop-i-preserved c =
    filled_more _ _ _ _ _ _ c.loop-i.invariant c.loop-i-test.true
    (word_is _ _ _ _ _ _ _ c.min-from.ensures c.min-to.ensures c.put_bytes.ensures c.loop-i-test.true c.from_be_bytes.ensures)

pub returns : goal.returns
returns c = search (rules, filled_all)
