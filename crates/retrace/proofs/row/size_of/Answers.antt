-- `retrace::row::size_of` meets its contract, by its two chains.
use Rattle.std.proofs.Common.{rules, arith, refl, ◌∙◌}
use Rattle.std.specs.Prelude.{not, eqb}
use Rattle.std.proofs.lemmas.Iterator.{YieldsList-from_range}
use Rattle.std.proofs.lemmas.Iterator.Consumers.{YieldsList-from_filter, count_from_yields_List}
use Rattle.basics.specs.Laws.Ranges.{any_below, length_kept}
use Rattle.retrace.specs.Code.Shown.{chapter_of}
use Rattle.retrace.proofs.Rows.{sized}
use Rattle.retrace.proofs.row.size_of.Goals as goal

pub returns : goal.returns
returns c =
    let d = chapter_of c.args.permissions.now c.args.flips.now c.args.s c.args.x in
    sized d _ _ _
    (any_below (λ k. not (eqb (d.kind k) 0)) _ _ _ c.any-plain.ensures.ran (YieldsList-from_range 0 _ 16 refl (omega arith)) (λ x b q k. search rules))
    (count_from_yields_List _ _ c.count-pages.ensures.ran
    (YieldsList-from_filter _ d.page (YieldsList-from_range 0 _ 16 c.filter.ensures.source (omega arith)) c.filter.ensures.closure (λ x b q k. search rules))
    ∙ length_kept d.page _)
    (search rules)
