-- `hunk::block_at` meets its contract: one law for each return.
use Rattle.std.proofs.Common.{rules}
use Rattle.hunk.proofs.ByForm.{blocks}
use Rattle.hunk.proofs.block_at.Goals as goal
use Rattle.hunk.proofs.block_at.Goals.{then-eq-via-then-eq, then-eq-via-else-eq+then-s-p-2}

pub returns-then-s-p : goal.returns-then-s-p
returns-then-s-p c = search (rules, blocks)

pub returns-then-eq : goal.returns-then-eq
returns-then-eq c =
    elim c.then-eq.branch [
      | then-eq-via-then-eq w ↦ search (rules, blocks)
      | then-eq-via-else-eq+then-s-p-2 w ↦ search (rules, blocks)
    ]

pub returns : goal.returns
returns c = search (rules, blocks)
