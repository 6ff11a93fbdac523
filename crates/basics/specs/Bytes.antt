-- Numbers of several bytes, the lowest byte first: read at a place, and written out (001, "Nomenclature").
use Rattle.std.specs.Prelude.{ℕ, ◌+◌, ◌*◌, ◌%◌, ◌/◌, List, ◌∷◌, [], ◌++◌, get_or}

-- the number of 16, 24, 32 bits that stands at a place
abbrev pub at16 : List ℕ → ℕ → ℕ
at16 s at = get_or s at 0 + 256 * get_or s (at + 1) 0

abbrev pub at24 : List ℕ → ℕ → ℕ
at24 s at = at16 s at + 65536 * get_or s (at + 2) 0

abbrev pub at32 : List ℕ → ℕ → ℕ
at32 s at = at16 s at + 65536 * at16 s (at + 2)

-- the bytes of a number of 16, 24, 32 bits; of words, one after the other
abbrev pub le16 : ℕ → List ℕ
le16 w = w % 256 ∷ w / 256 ∷ []

abbrev pub le24 : ℕ → List ℕ
le24 x = x % 256 ∷ le16 (x / 256)

abbrev pub le32 : ℕ → List ℕ
le32 x = le16 (x % 65536) ++ le16 (x / 65536)

unfoldable pub bytes16 : List ℕ → List ℕ
bytes16 [] = []
bytes16 (w ∷ ws) = w % 256 ∷ w / 256 ∷ bytes16 ws
