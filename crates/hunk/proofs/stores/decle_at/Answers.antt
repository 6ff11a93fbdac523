-- `hunk::stores::decle_at` meets its contract: one law for each decle of a packet.
use borrow.Author.Rules.{rules}
use Rattle.hunk.proofs.Stored.{decles}
use Rattle.hunk.proofs.stores.decle_at.Goals as goal

pub returns-then-k-eq0 : goal.returns-then-k-eq0
returns-then-k-eq0 c = search (rules, decles)

pub returns-then-k-eq1 : goal.returns-then-k-eq1
returns-then-k-eq1 c = search (rules, decles)

pub returns-then-k-eq2 : goal.returns-then-k-eq2
returns-then-k-eq2 c = search (rules, decles)

pub returns : goal.returns
returns c = search (rules, decles)
