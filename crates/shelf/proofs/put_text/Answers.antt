-- `shelf::put_text` meets its contract. The loop's invariant: the first b-index bytes are shown by the first k of the buffer.
use Rattle.std.proofs.Common.{rules}
use Rattle.shelf.proofs.Laws.{put_none, put_fits, put_more, put_length, put_is}
use Rattle.shelf.proofs.put_text.Goals as goal

pub loop-b-init : goal.loop-b-init
loop-b-init c = search (rules, put_none)

pub overflow_add-k : goal.overflow_add-k
overflow_add-k c = search (rules, put_fits)

pub loop-b-preserved : goal.loop-b-preserved
loop-b-preserved c = search (rules, put_more)

pub returns : goal.returns
returns c = (search (rules, put_length), search (rules, put_is))
