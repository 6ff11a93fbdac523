-- `save::frame` meets its contract: the frame has the sum that was asked for.
use Rattle.save.proofs.frame.Goals as goal

pub returns : goal.returns
returns c = let own = c.payload_sum-sum.ensures.1 c.requires in cc
