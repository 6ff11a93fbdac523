-- Laws of `Examples`.
use Rattle.std.specs.Prelude.{ℕ, List, ◌∷◌, [], map, ◌≡◌, refl, replicate}
use Rattle.sums.specs.Crc.{dowcrc_of, crc324_of, crc32_of, crc_from, crc_byte, crc_bits, crc_bit}
use Rattle.sums.specs.Cases.{up_to15, four}

-- DOWCRC, CRC32/4 and CRC32 of some bytes
abbrev pub Sums : Type 0
Sums = ℕ × (ℕ × ℕ)

abbrev pub sums_of : List ℕ → Sums
sums_of s = (dowcrc_of s, (crc324_of s, crc32_of s))

-- the first two rows have bench cases 1 and 2 (01, Bench cases); the last two are of eight bytes each (001, Test vectors)
abbrev pub vectors : List (List ℕ × Sums)
vectors =
    (up_to15, (0x00, (0x9BB9_9201, 0xCECE_E288)))
    ∷ (four, (0xB8, (0x02CB_247E, 0x9B04_D72C)))
    ∷ (replicate 8 0x00, (0x00, (0x0000_0000, 0x6522_DF69)))
    ∷ (replicate 8 0xFF, (0x84, (0xC44F_F94D, 0x2144_DF1C)))
    ∷ []

pub vectors_hold : map (λ v. sums_of v.0) vectors ≡ map (λ v. v.1) vectors
unfolding crc_from crc_byte crc_bits crc_bit
vectors_hold = refl
