-- `flash::write` meets its contract: a row that is written, and one that is not.
use Rattle.std.proofs.Common.{rules}
use Rattle.flash.specs.Flash.{written_flash}
use Rattle.flash.proofs.Laws.{fits}
use Rattle.flash.proofs.write.Goals as goal

pub copy-requires : goal.copy-requires
copy-requires c = search (rules, fits)

pub returns-then-writable : goal.returns-then-writable
unfolding written_flash
returns-then-writable c = search rules

pub returns-else-writable : goal.returns-else-writable
unfolding written_flash
returns-else-writable c = search rules
