-- `direct::write` meets its contract: an operand, another register of the accelerators, and any other write.
use Rattle.switches.specs.Flips.{active}
use Rattle.registers.specs.Words.{jlp_from}
use Rattle.direct.proofs.Laws.{by_operand, passed_on, by_register, by_switch}
use Rattle.direct.proofs.write.Goals as goal

pub returns-then-operates : goal.returns-then-operates
returns-then-operates c =
    let given = c.args in
    by_operand given.accelerators.now (active given.mapping.now given.permissions.now) given.flips.now _ _ given.readable.now given.flash.now given.ram.now
    _ _ c.operates.ensures c.if-operates.true

pub returns-then-latches : goal.returns-then-latches
returns-then-latches c =
    let given = c.args in
    passed_on given.accelerators.now (active given.mapping.now given.permissions.now) given.flips.now _ _ given.readable.now given.flash.now given.ram.now
    _ _ c.operates.ensures c.if-operates.false _ _ _ _ _ _ _
    (by_register (jlp_from c.operates.new.w) (active given.mapping.now given.permissions.now) given.flips.now _ _ given.readable.now given.flash.now
    given.ram.now _ c.latches.ensures _ _ _ c.if-latches.true c.latch.ensures)

pub returns : goal.returns
returns c =
    let given = c.args in
    passed_on given.accelerators.now (active given.mapping.now given.permissions.now) given.flips.now _ _ given.readable.now given.flash.now given.ram.now
    _ _ c.operates.ensures c.if-operates.false _ _ _ _ _ _ _
    (by_switch (jlp_from c.operates.new.w) (active given.mapping.now given.permissions.now) given.flips.now _ _ given.readable.now given.flash.now
    given.ram.now _ c.latches.ensures _ _ _ _ _ _ _ c.if-latches.false c.switch.ensures)
