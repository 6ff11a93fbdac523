-- `sums::byte` meets its contract: eight bits of the sum and the byte together.
use borrow.Author.Rules.{rules}
use Rattle.sums.specs.Crc.{crc_byte}
use Rattle.sums.proofs.byte.Goals as goal

pub returns : goal.returns
unfolding crc_byte
returns c = search rules
