-- `cfg::with_entry` meets its contract: the entry is stored, and the line of the first one too many is kept.
use borrow.Author.Rules.{rules}
use Rattle.cfg.proofs.Notes.{entry_extra, entry_other}
use Rattle.cfg.proofs.with_entry.Goals as goal
use Rattle.cfg.proofs.with_entry.Goals.{then-st-eq-LINE_LIMIT, else-st-eq-LINE_LIMIT}

pub returns : goal.returns
returns c = elim c.if-st-eq-LINE_LIMIT.branch [ then-st-eq-LINE_LIMIT w ↦ search (rules, entry_extra) | else-st-eq-LINE_LIMIT w ↦ search (rules, entry_other) ]
