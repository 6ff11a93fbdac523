-- The tables of a polynomial, and a sum by lent tables: eight bytes at a time while eight are left, then byte by byte.
use Rattle.std.specs.Prelude.{ℕ, ◌*◌, ◌/◌, ◌+◌, ◌%◌, zero, suc, List, [], ◌∷◌, get_or, length, drop}
use Rattle.std.specs.Int.Bits.{bit_xor}
use Rattle.basics.specs.Tables.{table}
use Rattle.sums.specs.Crc.{crc_bits}

abbrev pub table_entries : ℕ
table_entries = 2048

-- eight tables of 256 in one list: entry k of table j is what a byte k comes to when j bytes follow it
abbrev pub entry_of : ℕ → ℕ → ℕ
entry_of p i = crc_bits p (8 * (i / 256) + 8) (i % 256)

unfoldable pub tables_of : ℕ → List ℕ
tables_of p = table table_entries (entry_of p)

-- what table j has for the byte b and the low byte of c
unfoldable pub entry_at : List ℕ → ℕ → ℕ → ℕ → ℕ
entry_at t j c b = get_or t (256 * j + bit_xor c b % 256) 0

-- byte by byte: the low byte's entry in the first table, and the rest moved down
unfoldable pub by_bytes : List ℕ → ℕ → List ℕ → ℕ
by_bytes t c [] = c
by_bytes t c (b ∷ s) = by_bytes t (bit_xor (c / 256) (entry_at t 0 c b)) s

-- eight bytes at once, from place i on: the four bytes of c go with the first four, and each has the table of how many follow it
unfoldable pub by_eight : List ℕ → ℕ → List ℕ → ℕ → ℕ
by_eight t c s i =
    bit_xor (entry_at t 7 c (get_or s i 0))
    (bit_xor (entry_at t 6 (c / 256) (get_or s (i + 1) 0))
    (bit_xor (entry_at t 5 (c / 65536) (get_or s (i + 2) 0))
    (bit_xor (entry_at t 4 (c / 16777216) (get_or s (i + 3) 0))
    (bit_xor (entry_at t 3 0 (get_or s (i + 4) 0))
    (bit_xor (entry_at t 2 0 (get_or s (i + 5) 0))
    (bit_xor (entry_at t 1 0 (get_or s (i + 6) 0)) (entry_at t 0 0 (get_or s (i + 7) 0))))))))

-- the first n eights of s
unfoldable pub by_eights : List ℕ → ℕ → List ℕ → ℕ → ℕ
by_eights t c s zero = c
by_eights t c s (suc n) = by_eight t (by_eights t c s n) s (8 * n)

-- all eights, then what is left
unfoldable pub by_tables : List ℕ → ℕ → List ℕ → ℕ
by_tables t c s = by_bytes t (by_eights t c s (length s / 8)) (drop (8 * (length s / 8)) s)
