-- `layout::lay_out` meets its contract: the drawing and the words by the survey are those of the lines.
use Rattle.basics.specs.Laws.Lists.{take_min}
use Rattle.places.specs.Limits.{line_limit}
use Rattle.layout.specs.Laws.Draw.{begins, draws, pours}
use Rattle.layout.proofs.lay_out.Goals as goal

pub pour-requires : goal.pour-requires
pour-requires c = begins _ _ _ c.survey_of-s.ensures

pub returns : goal.returns
returns c =
    let s = c.survey_of-s.ensures in
    let e = take_min _ line_limit c.args.lines.now c.min.ensures in
    (rw e at (draws _ _ _ s _ c.drawn.ensures), rw e at (pours _ _ _ s _ _ _ c.pour.ensures))
