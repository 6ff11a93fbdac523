-- `recovery::finish` meets its contract: 29, or copied and answered.
use Rattle.recovery.proofs.Answers.{finish-short, finish-kept, finish-room, finish-long, finish-good}
use borrow.Author.Rules.{rules}
use Rattle.recovery.proofs.finish.Goals as goal

pub returns-then-out-length : goal.returns-then-out-length
returns-then-out-length c = (search (rules, finish-short), search (rules, finish-kept))

pub put_image-requires : goal.put_image-requires
put_image-requires c = search (rules, finish-room, finish-long)

pub returns : goal.returns
returns c = (search (rules, finish-good), search rules)
