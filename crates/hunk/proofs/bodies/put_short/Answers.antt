-- `hunk::bodies::put_short` meets its contract: the upper bits, and the lower bytes behind them.
use borrow.Author.Rules.{rules}
use Rattle.hunk.proofs.Packed.{short_put}
use Rattle.hunk.proofs.bodies.put_short.Goals as goal

pub returns : goal.returns
returns c = search (rules, short_put)
