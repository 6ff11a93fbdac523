-- `flash::has_flash` meets its contract: its two tests are those of `has_flash`.
use Rattle.std.proofs.Common.{rules}
use Rattle.basics.specs.Laws.Tests.{tests}
use Rattle.flash.specs.Registers.{has_flash}
use Rattle.flash.proofs.has_flash.Goals as goal

pub returns : goal.returns
unfolding has_flash
returns c = search (rules, tests)
