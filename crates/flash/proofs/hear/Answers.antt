-- `flash::hear` meets its contract: each return has decided the tests of `flash_heard`.
use Rattle.std.proofs.Common.{rules}
use Rattle.basics.specs.Laws.Tests.{tests}
use Rattle.flash.specs.Registers.{flash_heard}
use Rattle.flash.proofs.Laws.{size_low, size_high}
use Rattle.flash.proofs.hear.Goals as goal

pub returns-then-not-has_flash : goal.returns-then-not-has_flash
unfolding flash_heard
returns-then-not-has_flash c = search (rules, tests)

pub returns-then-a : goal.returns-then-a
unfolding flash_heard
returns-then-a c = search (rules, tests)

pub last_row-requires : goal.last_row-requires
last_row-requires c = search (rules, size_low, size_high)

pub returns-then-a-2 : goal.returns-then-a-2
unfolding flash_heard
returns-then-a-2 c = search (rules, tests)

pub returns : goal.returns
unfolding flash_heard
returns c = search (rules, tests)
