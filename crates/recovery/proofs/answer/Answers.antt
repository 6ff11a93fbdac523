-- `recovery::answer` meets its contract: 30, or the salvage.
use Rattle.recovery.proofs.Answers.{long-answers, long-keeps, short-answers, short-written}
use borrow.Author.Rules.{rules}
use Rattle.recovery.proofs.answer.Goals as goal

pub returns-then-image-gt-CARD_LIMIT : goal.returns-then-image-gt-CARD_LIMIT
returns-then-image-gt-CARD_LIMIT c = rw c.from.ensures (search (rules, long-answers), search (rules, long-keeps))

pub returns : goal.returns
returns c = (search (rules, short-answers), search (rules, short-written))
