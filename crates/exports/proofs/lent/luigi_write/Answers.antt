-- `exports::lent::luigi_write` meets its contract: the short way, and the long one from the RAM that it has left, with tidy words.
use Rattle.switches.specs.Flips.{active}
use Rattle.registers.specs.Laws.Words.{tidy_now}
use Rattle.direct.proofs.Theorems.Direct.{stored_left, asked_left}
use Rattle.exports.specs.Laws.Runs.{left_from}
use Rattle.exports.proofs.lent.luigi_write.Goals as goal

pub returns-then-store : goal.returns-then-store
returns-then-store c =
    let given = c.args in
    let words = c.tidy.new.w in
    left_from given.accelerators.now words (active given.mapping.now given.permissions.now) given.flips.now _ _
    given.readable.now given.flash.now given.ram.now _ _ _ _ _ _ _ c.tidy.ensures
    (stored_left words (active given.mapping.now given.permissions.now) given.flips.now _ _
    given.readable.now given.flash.now given.ram.now _ _ _ c.is_on-on.ensures c.store.ensures.0 c.store.ensures.1
    (tidy_now given.accelerators.now words c.tidy.ensures) c.if-store.true)

pub returns : goal.returns
returns c =
    let given = c.args in
    let words = c.tidy.new.w in
    left_from given.accelerators.now words (active given.mapping.now given.permissions.now) given.flips.now _ _
    given.readable.now given.flash.now given.ram.now _ _ _ _ _ _ _ c.tidy.ensures
    (asked_left words (active given.mapping.now given.permissions.now) given.flips.now _ _
    given.readable.now given.flash.now given.ram.now _ _ _ c.is_on-on.ensures
    c.store.ensures.0 c.store.ensures.1 _ _ _ _ _ _ _ c.if-store.false c.write.ensures)
