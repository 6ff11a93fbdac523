-- `jlp::fresh` meets its contract.
use Rattle.jlp.proofs.fresh.Goals as goal

pub returns : goal.returns
returns c = cc
