-- `exports::luigi_writes` meets its contract. The invariant: the lent tables, the accelerators' words, the RAM, the flash and the numbers are what the first
-- i writes leave.
use mathlib.Core.Path.{◌≡◌, ◌∙◌}
use native.Mathlib.Omega.{arith}
use borrow.Author.Rules.{rules}
use Rattle.registers.specs.Laws.Words.{tidy_now}
use Rattle.exports.specs.Laws.Runs.{ran_none, ran_store, ran_asked, ran_last, ran_from}
use Rattle.exports.proofs.luigi_writes.Goals as goal

pub loop-i-init : goal.loop-i-init
loop-i-init c = (
  (search rules),
  (search (rules, c.least_of-i-end.ensures)),
  (search (rules, c.least_of-i-end.ensures)),
  (search (rules, c.least_of-i-end.ensures)),
  (search rules),
  (search rules),
  (search rules),
  (search (ran_none, tidy_now, c.tidy.ensures)),
)

pub loop-i-preserved-then-store : goal.loop-i-preserved-then-store
loop-i-preserved-then-store c = (
  (search rules),
  (search rules),
  (search rules),
  (search rules),
  (search rules),
  (search rules),
  (search rules),
  (ran_store _ _ _ _ _ _ _ _ _ _ _ _ _ _ _ _ _ _ c.loop-i.invariant.7 c.is_on-on.ensures c.store.ensures c.if-store.true),
)

pub loop-i-preserved : goal.loop-i-preserved
loop-i-preserved c = (
  (search rules),
  (search rules),
  (search rules),
  (search rules),
  (search rules),
  (search rules),
  (search rules),
  (ran_asked _ _ _ _ _ _ _ _ _ _ _ _ _ _ _ _ _ _ c.loop-i.invariant.7 c.is_on-on.ensures c.store.ensures _ _ _ _ _ _ _ c.if-store.false c.write.ensures),
)

pub returns : goal.returns
returns c =
    let given = c.args in
    let i : c.loop-i.i ≡ c.least_of-i-end.result = omega arith in
    ran_last _ _ _ _ _ _ _ _ _ _ _ _ _ _ _ _ (i ∙ c.least_of-i-end.ensures.0)
    (ran_from _ _ _ _ given.accelerators.now _ _ _ _ _ _ _ _ _ _ _ _ _ _ _ c.tidy.ensures c.loop-i.invariant.7)
