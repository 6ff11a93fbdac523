-- `demands::press_and_load` meets its contract: the build's answer, and the load's of the image.
use mathlib.Core.Path.{ap, ◌∙◌}
use Rattle.build.specs.Building.{building_from}
use Rattle.build.specs.Laws.Outcome.{building_back}
use Rattle.demands.proofs.press_and_load.Goals as goal

pub returns-clause-pressed : goal.returns-clause-pressed
returns-clause-pressed c = (
  record {
    answer = ap building_from c.build-building.ensures.0 ∙ building_back _ _ _ _;
    leaves = c.build-building.ensures.1;
    loads = rw c.length_of.ensures at c.load_front-loading.ensures.0;
  },
  c.load_front-loading.ensures.1,
)
