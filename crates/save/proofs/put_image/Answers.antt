-- `save::put_image` meets its contract: what stands before the hunks in its part, then the hunks and the end in theirs.
use borrow.Author.Rules.{rules}
use Rattle.save.proofs.Laws.{image_written}
use Rattle.save.proofs.put_image.Goals as goal

pub returns : goal.returns
returns c = search (rules, image_written)
