-- `sums::tables` meets its contract. The invariant: the first i entries stand; each that comes is a byte's step from the one 256 before it.
use borrow.Author.Rules.{rules}
use Rattle.basics.specs.Laws.Tables.{filled_all}
use Rattle.sums.specs.Tables.{tables_of}
use Rattle.sums.proofs.Laws.{tables_next}
use Rattle.sums.proofs.tables.Goals as goal

pub returns : goal.returns
unfolding tables_of
returns c = search (rules, filled_all)

pub loop-i-preserved : goal.loop-i-preserved
loop-i-preserved c = search (rules, tables_next)
