-- `flash::writable` meets its contract: its two tests are those of `writable`.
use Rattle.std.proofs.Common.{rules}
use Rattle.flash.specs.Flash.{writable}
use Rattle.flash.proofs.Laws.{fits}
use Rattle.flash.proofs.writable.Goals as goal

pub is_empty-requires : goal.is_empty-requires
is_empty-requires c = search (rules, fits)

pub returns-then-readable : goal.returns-then-readable
unfolding writable
returns-then-readable c = search rules

pub returns-else-readable : goal.returns-else-readable
unfolding writable
returns-else-readable c = search rules
