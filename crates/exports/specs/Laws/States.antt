-- What C is answered and gives back is the same cartridge: nothing is lost on the way through its structs.
use Rattle.std.specs.Prelude.{◌<◌, ◌≡◌, length}
use Rattle.jlp.specs.Accelerators.{operand_count}
use Rattle.registers.specs.Laws.Words.{words_again}
use Rattle.cart.specs.declared.Cartridge.{Cartridge}
use Rattle.exports.specs.States.{state_of, cartridge_from}

-- a cartridge whose JLP field is a byte, and whose accelerators have 12 operands, as every one has
pub state_again : (c : Cartridge) → c.jlp.field < 256 → length c.jlp.operands ≡ operand_count → cartridge_from (state_of c) ≡ c
state_again c f l = rw (words_again c.jlp f l)
