-- `build::write_drawing` meets its contract.
use mathlib.Core.Path.{refl}
use Rattle.build.specs.Laws.Press.{drawn_written}
use Rattle.build.proofs.write_drawing.Goals as goal

pub returns : goal.returns
returns c = drawn_written _ _ _ _ _ c.args.d.now _ refl c.write.ensures
