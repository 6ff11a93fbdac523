-- `rooms::label_room` meets its contract: a repeat has the length that it says, with no element counted.
use Rattle.std.proofs.Common.{ℕ, sym}
use lib.ListN.{length-replicate}
use Rattle.cases.proofs.rooms.label_room.Goals as goal

pub returns : goal.returns
returns c = sym (length-replicate {A = ℕ} 70016 0)
