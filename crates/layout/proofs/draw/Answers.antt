-- `layout::draw` meets its contract: the drawing by the survey is that of the lines.
use Rattle.basics.specs.Laws.Lists.{take_min}
use Rattle.places.specs.Limits.{line_limit}
use Rattle.layout.specs.Laws.Draw.{draws}
use Rattle.layout.proofs.draw.Goals as goal

pub returns : goal.returns
returns c = rw (take_min _ line_limit c.args.lines.now c.min.ensures) at (draws _ _ _ c.survey_of.ensures _ c.drawn.ensures)
