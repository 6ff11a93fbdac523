-- `print::rom_text` meets its contract: its parts, one after the other.
use Rattle.print.proofs.rom_text.Goals as goal

pub returns : goal.returns
returns c =
    rw (
      c.push-6.ensures,
      c.push-5.ensures,
      c.push-4.ensures,
      c.push-3.ensures,
      c.push-2.ensures,
      c.push.ensures,
      c.new-t.ensures,
      c.hex_of.ensures,
      c.hex_of-2.ensures,
      c.hex_of-3.ensures,
      c.from.ensures,
    )
