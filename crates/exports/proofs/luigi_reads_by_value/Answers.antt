-- `exports::luigi_reads_by_value` meets its contract. The invariant: the first i words of `out` are the answers to the first i reads.
use mathlib.Core.Path.{◌≡◌}
use native.Mathlib.Nat.{min-le_left, min-le_right}
use native.Mathlib.Omega.{arith}
use borrow.Author.Rules.{rules}
use Rattle.exports.specs.Laws.Runs.{answered_none, answered_one}
use Rattle.exports.proofs.luigi_reads_by_value.Goals as goal

pub loop-i-init : goal.loop-i-init
loop-i-init c = search (rules, c.min-i-end.ensures, min-le_left, min-le_right, answered_none)

pub loop-i-preserved : goal.loop-i-preserved
loop-i-preserved c = (
  (search rules),
  (search rules),
  (search rules),
  (search rules),
  (search (answered_one, c.heard.ensures, c.read.ensures)),
)

pub returns : goal.returns
returns c =
    let n : c.loop-i.i ≡ c.min-i-end.result = omega arith in
    rw (← c.min-i-end.ensures, ← n) (rw c.fresh-c.ensures at c.loop-i.invariant.4)
