-- `print::text_of` meets its contract, by the kind of the entry.
use mathlib.Core.Path.{◌∙◌}
use Rattle.print.specs.Laws.Texts.{ended}
use Rattle.print.proofs.text_of.Goals as goal
use Rattle.print.proofs.text_of.Goals.{in-Rom, in-Paged, in-Ram}

pub returns : goal.returns
returns c =
    c.push.ensures
    ∙ ended c.args.e c.match-e.t
    (elim c.match-e.branch [
      | in-Rom w ↦ rw (w.in-Rom.is, w.t-is) w.rom_text-t.ensures
      | in-Paged w ↦ rw (w.in-Paged.is, w.t-is) w.paged_text-t.ensures
      | in-Ram w ↦ rw (w.in-Ram.is, w.t-is) w.ram_text-t.ensures
    ])
