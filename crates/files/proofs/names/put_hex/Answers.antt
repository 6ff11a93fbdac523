-- `names::put_hex` meets its contract. The loop's invariant: the first i bytes are put, two digits each.
use borrow.Author.Rules.{rules}
use Rattle.files.proofs.Named.{hex_none, hex_more, hex_all}
use Rattle.files.proofs.names.put_hex.Goals as goal

pub loop-i-init : goal.loop-i-init
loop-i-init c = search (rules, hex_none)

pub loop-i-preserved : goal.loop-i-preserved
loop-i-preserved c = search (rules, hex_more)

pub returns : goal.returns
returns c = search (rules, hex_all)
