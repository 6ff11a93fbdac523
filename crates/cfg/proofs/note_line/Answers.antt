-- `cfg::note_line` meets its contract: the line is cut, read, counted and noted.
use borrow.Author.Rules.{rules}
use Rattle.cfg.proofs.Notes.{line_within, still_few, noted_line_lem}
use Rattle.cfg.proofs.note_line.Goals as goal

pub note-requires : goal.note-requires
note-requires c = search (rules, still_few)

pub returns : goal.returns
returns c = search noted_line_lem

pub slice_bounds-read_line-end : goal.slice_bounds-read_line-end
slice_bounds-read_line-end c = search (rules, line_within)
