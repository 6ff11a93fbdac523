-- `cfg::note` meets its contract: one callee for each thing a line may say.
use Rattle.cfg.proofs.Notes.{noted_heading, noted_entry, noted_outside}
use Rattle.cfg.proofs.note.Goals as goal

pub returns-in-Heading : goal.returns-in-Heading
returns-in-Heading c = search noted_heading

pub returns-in-Claims : goal.returns-in-Claims
returns-in-Claims c = search noted_entry

pub returns-in-Outside : goal.returns-in-Outside
returns-in-Outside c = search noted_outside
