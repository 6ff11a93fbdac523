-- `hunk::data::write_data` meets its contract: the start byte, and what stands behind it.
use borrow.Author.Rules.{rules}
use Rattle.hunk.proofs.Written.{data_some, data_begins, data_behind, data_written}
use Rattle.hunk.proofs.data.write_data.Goals as goal

pub bounds-out-0 : goal.bounds-out-0
bounds-out-0 c = search (rules, data_some)

pub slice_bounds-put_behind-count : goal.slice_bounds-put_behind-count
slice_bounds-put_behind-count c = search (rules, data_begins)

pub slice_bounds-put_behind-start : goal.slice_bounds-put_behind-start
slice_bounds-put_behind-start c = search (rules, data_begins)

pub put_behind-requires : goal.put_behind-requires
put_behind-requires c = search (rules, data_behind)

pub returns : goal.returns
returns c = search (rules, data_written)
