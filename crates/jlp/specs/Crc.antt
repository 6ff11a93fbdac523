-- The CRC: right shifting, one 16-bit word a write (02, W-206; 000, JLP CRC-16 Accelerator).
use Rattle.std.specs.Prelude.{ℕ, List, [], ◌∷◌}
use Rattle.std.specs.Int.Bits.{bit_xor}
use Rattle.sums.specs.Crc.{crc_bits}

-- the polynomial
abbrev pub jlp_poly : ℕ
jlp_poly = 0xAD52

-- a word is merged in, then sixteen bits go by (000, Reference Code)
unfoldable pub crc_word : ℕ → ℕ → ℕ
crc_word c w = crc_bits jlp_poly 16 (bit_xor c w)

-- words, from the first to the last
unfoldable pub crc_words : ℕ → List ℕ → ℕ
crc_words c [] = c
crc_words c (w ∷ ws) = crc_words (crc_word c w) ws
