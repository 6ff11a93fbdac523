-- `recovery::put_image` meets its contract: the header in its part, the kept blocks in theirs, then the end.
use Rattle.recovery.proofs.Answers.{image-put}
use borrow.Author.Rules.{rules}
use Rattle.recovery.proofs.put_image.Goals as goal

pub returns : goal.returns
returns c = search (rules, image-put)
