-- `exports::luigi_reads` meets its contract. The invariant: the first i words of `out` are the answers to the first i reads.
use native.Mathlib.Nat.{min-le_left, min-le_right}
use borrow.Author.Rules.{rules}
use mathlib.Core.Path.{◌≡◌, ◌∙◌}
use native.Mathlib.Omega.{arith}
use Rattle.exports.specs.Laws.Runs.{answered_none, answered_heard, answered_direct}
use Rattle.exports.proofs.luigi_reads.Goals as goal
use Rattle.exports.proofs.luigi_reads.Goals.{in-Some, in-None}

pub loop-i-init : goal.loop-i-init
loop-i-init c = search (rules, c.min-i-end.ensures, min-le_left, min-le_right, answered_none)

-- what is laid is what was heard, by the short way or by the long one
pub loop-i-preserved : goal.loop-i-preserved
loop-i-preserved c = (
  (search rules),
  (search rules),
  (search rules),
  (search rules),
  (elim c.match-hear.branch [
    | in-Some w ↦ search (answered_direct, w.out-is, w.in-Some.is, c.hear.ensures, c.is_on-on.ensures)
    | in-None w ↦ search (answered_heard, w.out-is ∙ w.read.ensures)
  ]),
)

pub returns : goal.returns
returns c =
    let n : c.loop-i.i ≡ c.min-i-end.result = omega arith in
    rw (← c.min-i-end.ensures, ← n) c.loop-i.invariant.4
