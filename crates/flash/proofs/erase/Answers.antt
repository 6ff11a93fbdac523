-- `flash::erase` meets its contract: a sector that is erased, and one that is not.
use Rattle.std.proofs.Common.{rules}
use Rattle.flash.specs.Flash.{erased_flash}
use Rattle.flash.proofs.Laws.{fits}
use Rattle.flash.proofs.erase.Goals as goal

pub blank-requires : goal.blank-requires
blank-requires c = search (rules, fits)

pub returns-then-sector_lent : goal.returns-then-sector_lent
unfolding erased_flash
returns-then-sector_lent c = search rules

pub returns-else-sector_lent : goal.returns-else-sector_lent
unfolding erased_flash
returns-else-sector_lent c = search rules
