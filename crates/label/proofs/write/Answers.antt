-- `label::write` meets its contract: 12, 29, and the block in its part.
use Rattle.label.proofs.Laws.{write_12, kept_12, short_enough, write_29, kept_29, write_done, put_done}
use borrow.Author.Rules.{rules}
use Rattle.label.proofs.write.Goals as goal

pub returns-then-is_wrong : goal.returns-then-is_wrong
returns-then-is_wrong c = rw c.from.ensures (search (rules, write_12), search (rules, kept_12))

pub returns-then-out-long : goal.returns-then-out-long
returns-then-out-long c = (search (rules, write_29), search (rules, kept_29))

pub put_block-requires : goal.put_block-requires
put_block-requires c = (search rules, search (rules, short_enough))

pub returns : goal.returns
returns c = (search (rules, write_done), search (rules, put_done))
