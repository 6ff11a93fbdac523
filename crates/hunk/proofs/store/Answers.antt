-- `hunk::store` meets its contract: by what the check answered.
use Rattle.std.proofs.Common.{rules}
use Rattle.hunk.proofs.Loops.{store_kept, store_storable, store_laid}
use Rattle.hunk.proofs.store.Goals as goal

pub store_blocks-requires : goal.store_blocks-requires
store_blocks-requires c = search (rules, store_storable)

pub returns-then-is_ok : goal.returns-then-is_ok
returns-then-is_ok c = search (rules, store_laid)

pub returns-else-is_ok : goal.returns-else-is_ok
returns-else-is_ok c = search (rules, store_kept)
