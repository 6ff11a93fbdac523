-- `hunk::bodies::put_decles` meets its contract: whole packets, and the short one where there is one.
use borrow.Author.Rules.{rules}
use Rattle.hunk.proofs.Packed.{packets_short}
use Rattle.hunk.proofs.bodies.put_decles.Goals as goal

pub returns : goal.returns
returns c = search (rules, packets_short)
