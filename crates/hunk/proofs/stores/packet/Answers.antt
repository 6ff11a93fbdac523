-- `hunk::stores::packet` meets its contract: four stores are the four decles laid.
use Rattle.hunk.proofs.Stored.{packet_laid}
use Rattle.hunk.proofs.stores.packet.Goals as goal

pub returns : goal.returns
returns c = search packet_laid
