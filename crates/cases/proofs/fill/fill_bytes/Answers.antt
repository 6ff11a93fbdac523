-- `fill::fill_bytes` is safe and ends: the place stays within the buffer, which keeps its length.
use Rattle.std.proofs.Common.{length-set, rules}
use Rattle.cases.proofs.fill.fill_bytes.Goals as goal

pub loop-i-preserved : goal.loop-i-preserved
loop-i-preserved c = simp length-set (search rules)
