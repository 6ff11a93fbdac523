-- `recovery::is_left_out` meets its contract: by the type, and by the judgement.
use Rattle.recovery.proofs.Laws.{out_other, out_hunk}
use borrow.Author.Rules.{rules}
use Rattle.recovery.proofs.is_left_out.Goals as goal

pub returns-then-byte_at-eq-HUNK_TYPE : goal.returns-then-byte_at-eq-HUNK_TYPE
returns-then-byte_at-eq-HUNK_TYPE c = let own = c.judge.ensures.1 c.requires in search (rules, out_hunk)

pub returns-else-byte_at-eq-HUNK_TYPE : goal.returns-else-byte_at-eq-HUNK_TYPE
returns-else-byte_at-eq-HUNK_TYPE c = search (rules, out_other)
