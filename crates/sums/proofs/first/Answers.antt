-- `sums::first` meets its contract. The invariant: the first i entries stand; in the end these are the first table.
use mathlib.Core.Path.{◌≡◌}
use native.Mathlib.Omega.{arith}
use borrow.Author.Rules.{rules}
use Rattle.basics.specs.Laws.Tables.{filled_none}
use Rattle.sums.specs.Tables.{table_entries, entry_of}
use Rattle.sums.proofs.Laws.{first_next}
use Rattle.sums.proofs.first.Goals as goal

pub loop-i-init : goal.loop-i-init
loop-i-init c = (search rules, filled_none 0 table_entries (entry_of c.args.p) _ (search rules))

pub returns : goal.returns
returns c =
    let i : c.loop-i.i ≡ 256 = omega arith in
    rw i at c.loop-i.invariant.1

pub loop-i-preserved : goal.loop-i-preserved
loop-i-preserved c = search (rules, first_next)
