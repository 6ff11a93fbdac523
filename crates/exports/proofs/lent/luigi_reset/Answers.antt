-- `exports::lent::luigi_reset` meets its contract: it leaves what a reset leaves of a cartridge as loaded with the initial tables.
use Rattle.exports.proofs.lent.luigi_reset.Goals as goal

pub returns : goal.returns
returns c =
    let left = c.reset-c.ensures in
    let made = c.fresh.ensures in
    (rw (left, made), rw (left, made), rw (left, made), rw (c.words_of.ensures, left, made, c.jlp_from.ensures))
