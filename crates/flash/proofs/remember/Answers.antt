-- `flash::remember` meets its contract: each return has decided the tests of `remembered`.
use Rattle.std.proofs.Common.{rules}
use Rattle.basics.specs.Laws.Tests.{tests}
use Rattle.flash.specs.Registers.{remembered}
use Rattle.flash.proofs.remember.Goals as goal

pub returns-then-not-has_flash : goal.returns-then-not-has_flash
unfolding remembered
returns-then-not-has_flash c = search (rules, tests)

pub returns-then-a : goal.returns-then-a
unfolding remembered
returns-then-a c = search (rules, tests)

pub returns-then-a-2 : goal.returns-then-a-2
unfolding remembered
returns-then-a-2 c = search (rules, tests)

pub returns : goal.returns
unfolding remembered
returns c = search (rules, tests)
