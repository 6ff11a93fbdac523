-- `flash::read` meets its contract: a row that is read, and one that is not.
use Rattle.std.proofs.Common.{rules}
use Rattle.flash.specs.Flash.{read_ram}
use Rattle.flash.proofs.Laws.{fits}
use Rattle.flash.proofs.read.Goals as goal

pub copy-requires : goal.copy-requires
copy-requires c = search (rules, fits)

pub returns-then-readable : goal.returns-then-readable
unfolding read_ram
returns-then-readable c = search rules

pub returns-else-readable : goal.returns-else-readable
unfolding read_ram
returns-else-readable c = search rules
