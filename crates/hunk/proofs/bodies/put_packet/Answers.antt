-- `hunk::bodies::put_packet` meets its contract: five stores are the five bytes laid.
use Rattle.hunk.proofs.Packed.{packet_put}
use Rattle.hunk.proofs.bodies.put_packet.Goals as goal

pub returns : goal.returns
returns c = search packet_put
