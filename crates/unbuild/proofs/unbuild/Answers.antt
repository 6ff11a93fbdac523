-- `unbuild::unbuild` meets its contract: there are accelerators, or there are none.
use Rattle.unbuild.proofs.Theorems.Unbuilt.{answered_accelerated}
use Rattle.unbuild.proofs.unbuild.Goals as goal

pub returns-then-jlp_of-ne0 : goal.returns-then-jlp_of-ne0
returns-then-jlp_of-ne0 c =
    answered_accelerated _ _ _ _ _ _ c.jlp_of.ensures c.if-jlp_of-ne0.true c.refusal_accelerated.ensures c.refuse.ensures
