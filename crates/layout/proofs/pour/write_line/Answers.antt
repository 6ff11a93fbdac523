-- `layout::pour::write_line` meets its contract: words of the BIN, or zeros.
use mathlib.Core.Path.{refl}
use Rattle.layout.proofs.Sources.{words_by, all_zeros}
use Rattle.layout.proofs.pour.write_line.Goals as goal

pub returns-in-Ram : goal.returns-in-Ram
returns-in-Ram c = rw c.in-Ram.is (all_zeros _ _ _ c.requires.1 (c.fill.ensures.after (λ y e. e)) (λ i. refl))

pub returns-in-Rom : goal.returns-in-Rom
returns-in-Rom c = words_by _ _ _ _ _ _ _ c.in-Rom.is c.requires.0 c.word_of.ensures.place c.copy.ensures
