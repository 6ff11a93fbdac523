-- Right-shifting checksums: one definition over the polynomial, and the three that a LUIGI image has
-- (01, File layout; 001, the three "Reference Implementation" sections).
use Rattle.std.specs.Prelude.{ℕ, ◌/◌, ◌%◌, zero, suc, cond, List, [], ◌∷◌, eqb}
use Rattle.std.specs.Int.Bits.{bit_xor}

-- one bit: (crc >> 1) ^ (crc & 1 ? poly : 0) (001, Reference Implementation)
unfoldable pub crc_bit : ℕ → ℕ → ℕ
crc_bit p c = bit_xor (c / 2) (cond (eqb (c % 2) 1) p 0)

-- n bits
unfoldable pub crc_bits : ℕ → ℕ → ℕ → ℕ
crc_bits p zero c = c
crc_bits p (suc n) c = crc_bits p n (crc_bit p c)

-- one byte: crc ^= byte, then eight bits (001, Reference Implementation, "update")
unfoldable pub crc_byte : ℕ → ℕ → ℕ → ℕ
crc_byte p c b = crc_bits p 8 (bit_xor c b)

-- the bytes from the first to the last (001, Reference Implementation, "block")
unfoldable pub crc_from : ℕ → ℕ → List ℕ → ℕ
crc_from p c [] = c
crc_from p c (b ∷ s) = crc_from p (crc_byte p c b) s

-- the polynomials (01, File layout)
abbrev pub dow_poly : ℕ
dow_poly = 0x98

abbrev pub c324_poly : ℕ
c324_poly = 0x82F6_3B78

abbrev pub ieee_poly : ℕ
ieee_poly = 0xEDB8_8320

-- DOWCRC: start 0 (01, File layout)
abbrev pub dowcrc_of : List ℕ → ℕ
dowcrc_of s = crc_from dow_poly 0 s

-- CRC32/4: start 0, not inverted (01, File layout)
abbrev pub crc324_of : List ℕ → ℕ
crc324_of s = crc_from c324_poly 0 s

-- IEEE CRC32: start and final inversion 0xFFFFFFFF (01, File layout)
abbrev pub crc32_of : List ℕ → ℕ
crc32_of s = bit_xor (crc_from ieee_poly 0xFFFF_FFFF s) 0xFFFF_FFFF
