-- `layout::pour::write_paragraph` meets its contract: the words of the line, or zeros.
use Rattle.layout.proofs.Sources.{line_words, no_words}
use Rattle.layout.proofs.pour.write_paragraph.Goals as goal

pub returns-in-Some : goal.returns-in-Some
returns-in-Some c = line_words _ _ _ _ _ c.held_at.ensures _ _ _ c.in-Some.ensures c.address_at.ensures c.write_line.ensures

pub returns-in-None : goal.returns-in-None
returns-in-None c = no_words _ _ _ _ _ c.held_at.ensures _ _ c.in-None.ensures c.requires.p_lt_cells.1 (c.fill.ensures.after (λ y e. e))
