-- `write_and_load` meets its contract.
use mathlib.Core.Path.{ap, sym, ◌∙◌}
use Rattle.save.specs.Writing.{save_answer, saving_from}
use Rattle.save.proofs.Theorems.Refusals.{saving_back}
use Rattle.demands.proofs.write_and_load.Goals as goal

pub returns : goal.returns
returns c =
    let a = ap saving_from c.write-writing.ensures.0 ∙ saving_back _ _ in (
      record { answer = a; leaves = c.write-writing.ensures.1; loads = rw c.length_written.ensures at c.load_front-loading.ensures.0 },
      c.write-writing.ensures.0 ∙ ap save_answer (sym a),
      c.load_front-loading.ensures.1,
    )
