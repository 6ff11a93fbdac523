-- `basics::word_at` meets its contract: past the end both bytes are 0.
use borrow.Author.Rules.{rules}
use Rattle.basics.specs.Laws.Bytes.{at16_past}
use Rattle.basics.proofs.word_at.Goals as goal

pub returns-then-s-at : goal.returns-then-s-at
returns-then-s-at c = search (rules, at16_past)
