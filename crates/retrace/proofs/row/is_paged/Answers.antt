-- `retrace::row::is_paged` meets its contract.
use Rattle.std.proofs.Common.{rules, arith, refl}
use Rattle.std.specs.Prelude.{not, eqb}
use Rattle.std.proofs.lemmas.Iterator.{YieldsList-from_range}
use Rattle.basics.specs.Laws.Ranges.{any_below}
use Rattle.retrace.specs.Code.Shown.{row_in}
use Rattle.retrace.proofs.Rows.{paged_is, unpaged}
use Rattle.retrace.proofs.row.is_paged.Goals as goal

pub returns-then-may_flip : goal.returns-then-may_flip
returns-then-may_flip c =
    paged_is _ _ _ _ c.may_flip.ensures c.if-may_flip.true
    (any_below (λ y. not (eqb (row_in c.args.flips.now c.args.x y) 0)) _ _ _ c.any.ensures.ran (YieldsList-from_range 0 _ 16 refl (omega arith))
    (λ x b q k. search rules))

pub returns-else-may_flip : goal.returns-else-may_flip
returns-else-may_flip c = search (rules, unpaged)
