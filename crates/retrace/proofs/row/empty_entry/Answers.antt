-- `retrace::row::empty_entry` meets its contract: one answer for each value of the test.
use Rattle.std.proofs.Common.{rules, arith, refl}
use Rattle.std.specs.Prelude.{eqb}
use Rattle.std.proofs.lemmas.Iterator.{YieldsList-from_range}
use Rattle.basics.specs.Laws.Ranges.{any_below}
use Rattle.retrace.specs.Code.Shown.{row_in}
use Rattle.retrace.proofs.Rows.{empty_eight, empty_plain}
use Rattle.retrace.proofs.row.empty_entry.Goals as goal

pub returns-then-any : goal.returns-then-any
returns-then-any c =
    empty_eight _ _ _ _
    (any_below (λ y. eqb (row_in c.args.flips.now c.args.x y) 8) _ _ _ c.any.ensures.ran (YieldsList-from_range 0 _ 16 refl (omega arith))
    (λ x b q k. search rules))
    c.if-any.true

pub returns-else-any : goal.returns-else-any
returns-else-any c =
    empty_plain _ _ _ _
    (any_below (λ y. eqb (row_in c.args.flips.now c.args.x y) 8) _ _ _ c.any.ensures.ran (YieldsList-from_range 0 _ 16 refl (omega arith))
    (λ x b q k. search rules))
    c.if-any.false
