-- The accelerators' addresses in the console's (02, W-206; 000, JLP Default Memory Map). The code has a constant of the same name for each.
use Rattle.std.specs.Prelude.{ℕ, ◌+◌, Bool, ◌&&◌, leb}
use Rattle.places.specs.declared.Console.{Console}
use Rattle.places.specs.declared.Locutus.{Locutus}
use Rattle.places.specs.Places.{locutus}
use Rattle.flash.specs.Flash.{ram_start, ram_end, ram_shift}

-- an address from low to high
unfoldable pub between : ℕ → ℕ → ℕ → Bool
between low high a = leb low a && leb a high

-- while on, $8000-$9FFF is the accelerators' (02, W-206)
abbrev pub window_start : ℕ
window_start = 0x8000

abbrev pub window_end : ℕ
window_end = 0x9FFF

abbrev pub in_window : Console → Bool
in_window at = between window_start window_end at.0

-- in it, $8040-$9F7F is 16-bit RAM at Locutus $10040-$11F7F (02, W-206): the RAM that the flash's rows are copied to and from
abbrev pub in_ram : Console → Bool
in_ram at = between ram_start ram_end at.0

abbrev pub ram_location : Console → Locutus
ram_location at = locutus (at.0 + ram_shift)

-- as many lent words hold all of it (02, W-206, refusal 11)
abbrev pub ram_words : ℕ
ram_words = 73600

-- the words that turn on and off, and where (02, W-206; 000, Special Page-Switch)
abbrev pub on_at : ℕ
on_at = 0x8033

abbrev pub on_word : ℕ
on_word = 0x4A5A

abbrev pub off_at : ℕ
off_at = 0x8034

abbrev pub off_word : ℕ
off_word = 0x6A7A

-- the operands, and the two result words (000, JLP Multiply and Divide Accelerators)
abbrev pub operands_start : ℕ
operands_start = 0x9F80

abbrev pub operands_end : ℕ
operands_end = 0x9F8B

abbrev pub is_operand : Console → Bool
is_operand at = between operands_start operands_end at.0

abbrev pub first_at : ℕ
first_at = 0x9F8E

abbrev pub second_at : ℕ
second_at = 0x9F8F

-- where a word is added to the CRC, and where the CRC is set and read (000, JLP CRC-16 Accelerator)
abbrev pub data_at : ℕ
data_at = 0x9FFC

abbrev pub crc_at : ℕ
crc_at = 0x9FFD
