-- `hunk::size` meets its contract: the bytes of the address, and of the data blocks of all cuts.
use borrow.Author.Rules.{rules}
use Rattle.hunk.proofs.Written.{payload_sized, payload_most, payload_fits}
use Rattle.hunk.proofs.size.Goals as goal

pub overflow_add-result : goal.overflow_add-result
overflow_add-result c = search (rules, payload_fits)

pub returns : goal.returns
returns c = search (rules, payload_sized, payload_most)
