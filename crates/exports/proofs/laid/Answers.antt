-- `exports::laid` meets its contract: the fields and the words are the callees'.
use Rattle.exports.proofs.laid.Goals as goal

pub returns : goal.returns
returns c = rw (c.compat_of.ensures, c.words_of-accelerators.ensures)
