-- `lookup::seek_block` meets its contract: only metadata has texts.
use Rattle.std.proofs.Common.{rules}
use Rattle.lookup.proofs.Laws.{block_other, block_ours}
use Rattle.lookup.proofs.seek_block.Goals as goal

pub returns-then-t-ne-METADATA_TYPE : goal.returns-then-t-ne-METADATA_TYPE
returns-then-t-ne-METADATA_TYPE c = search (rules, block_other)

pub returns : goal.returns
returns c = search (rules, block_ours)
