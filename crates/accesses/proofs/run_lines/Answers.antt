-- `accesses::run_lines` meets its contract. The invariant: what is left of the run goes on from the world that the lent tables, the accelerators and the
-- memories are, and the answers so far stand in the buffer.
use mathlib.Core.Path.{ap}
use borrow.Author.Rules.{rules}
use Rattle.cart.specs.Run.{World}
use Rattle.accesses.proofs.Runs.{running_none, running_at, reset_start, turn_some, turn_fits, turn_more, ran_world, ran_out, ran_all}
use Rattle.accesses.proofs.Lines.{next_end}
use Rattle.accesses.proofs.run_lines.Goals as goal

pub loop-line-init : goal.loop-line-init
loop-line-init c = search (rules, running_none, reset_start)

pub says_at-requires : goal.says_at-requires
says_at-requires c = (running_at _ _ _ _ _ _ _ _ _ _ c.loop-line.invariant.5 (search rules), c.line_end-end.ensures)

pub unwrap-access-requires : goal.unwrap-access-requires
unwrap-access-requires c = search (rules, turn_some, c.loop-line.invariant.5, c.says_at.ensures)

pub note-k-requires : goal.note-k-requires
note-k-requires c =
    turn_fits _ _ _ _ _ _ _ _ _ _ _ _ _ _ _ _ c.loop-line.invariant.5 (search rules) _ c.says_at.ensures _ (search rules) _ _ c.make-made.ensures.0
    (search rules)

pub loop-line-preserved : goal.loop-line-preserved
loop-line-preserved c =
    let inv = c.loop-line.invariant in (
      (search rules),
      (let saved = c in search rules),
      (search rules),
      inv.3,
      inv.4,
      (turn_more _ _ _ _ _ _ _ _ _ _ _ _ _ _ _ _ inv.5 (search rules) _ c.says_at.ensures _ (search rules) _ _ _ _ _ _ _ _ _ c.make-made.ensures c.note-k.ensures
          (next_end _ _ _ _ c.line_end-end.ensures c.past_end-at.ensures)),
    )

pub returns : goal.returns
returns c =
    let inv = c.loop-line.invariant in
    let w = ran_world _ _ _ _ _ _ _ _ _ _ inv.5 (search rules) in (
      ran_all _ _ _ _ _ _ _ _ _ _ inv.5 (search rules) _ _ c.no_refusal.ensures c.with_active.ensures,
      ap (λ (x : World). x.ram) w,
      ap (λ (x : World). x.flash) w,
      ran_out _ _ _ _ _ _ _ _ _ _ inv.5 (search rules),
    )
