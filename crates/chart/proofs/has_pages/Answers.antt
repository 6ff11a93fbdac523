-- `chart::has_pages` meets its contract: any of the chapter's entries.
use Rattle.std.proofs.Common.{rules, arith, refl, ◌+◌, ◌*◌, ◌/◌}
use Rattle.std.proofs.lemmas.Iterator.{YieldsList-from_range}
use Rattle.basics.specs.Laws.Ranges.{any_below}
use Rattle.places.specs.Limits.{chapter_pages, chapter_paragraphs}
use Rattle.switches.specs.Flips.{acts}
use Rattle.chart.specs.Chart.{has_pages}
use Rattle.chart.proofs.has_pages.Goals as goal

pub returns : goal.returns
unfolding has_pages
returns c =
    any_below (λ y. acts c.args.flips.now (chapter_pages * (c.args.p / chapter_paragraphs) + y)) _ _ _ c.any.ensures.ran (YieldsList-from_range 0 _ 16 refl (omega arith))
    (λ x b q k. search rules)
