-- `flash::asked` meets its contract: each return has decided the tests of `command_of`.
use Rattle.std.proofs.Common.{rules}
use Rattle.basics.specs.Laws.Tests.{tests}
use Rattle.flash.specs.Registers.{command_of}
use Rattle.flash.proofs.asked.Goals as goal

pub returns-then-not-has_flash : goal.returns-then-not-has_flash
unfolding command_of
returns-then-not-has_flash c = search (rules, tests)

pub returns-then-value-eq-JF_WRKEY : goal.returns-then-value-eq-JF_WRKEY
unfolding command_of
returns-then-value-eq-JF_WRKEY c = search (rules, tests)

pub returns-then-value-eq-JF_RDKEY : goal.returns-then-value-eq-JF_RDKEY
unfolding command_of
returns-then-value-eq-JF_RDKEY c = search (rules, tests)

pub returns-then-value-eq-JF_ERKEY : goal.returns-then-value-eq-JF_ERKEY
unfolding command_of
returns-then-value-eq-JF_ERKEY c = search (rules, tests)

pub returns : goal.returns
unfolding command_of
returns c = search (rules, tests)
