-- `jlp::reset` meets its contract.
use Rattle.jlp.proofs.reset.Goals as goal

pub returns : goal.returns
returns c = cc
