-- An image's header: its fields, each with its place once; how it is written; and refusals 1 to 4 (01, File layout, Numbers that come back; 001, Version 1 Header).
use Rattle.std.specs.Prelude.{ℕ, ◌-◌, List, ◌∷◌, [], ◌++◌, Bool, ◌||◌, not, ltb, eqb, length, get_or}
use Rattle.basics.specs.declared.Refusal.{Refusal}
use Rattle.basics.specs.Lists.{part}
use Rattle.basics.specs.Counts.{any}
use Rattle.basics.specs.Rows.{Row}
use Rattle.basics.specs.Refusals.{refuse, first_refusal}
use Rattle.places.specs.Limits.{image_limit}
use Rattle.sums.specs.Crc.{dowcrc_of}

-- the magic number, at the front; the version; and the reserved bytes, as they are written
abbrev pub magic : List ℕ
magic = 0x4C ∷ 0x54 ∷ 0x4F ∷ []

abbrev pub version : ℕ
version = 0x01

abbrev pub reserved : List ℕ
reserved = 0 ∷ 0 ∷ 0 ∷ []

-- where each other field starts, and the header ends
abbrev pub version_at : ℕ
version_at = 3

abbrev pub flags_at : ℕ
flags_at = 4

abbrev pub uid_at : ℕ
uid_at = 20

abbrev pub reserved_at : ℕ
reserved_at = 28

abbrev pub sum_at : ℕ
sum_at = 31

abbrev pub header_size : ℕ
header_size = 32

-- the bytes of the flags and of the UID
abbrev pub flags_size : ℕ
flags_size = uid_at - flags_at

abbrev pub uid_size : ℕ
uid_size = reserved_at - uid_at

-- written: the fields one after the other, then the DOWCRC of them all
unfoldable pub head_of : List ℕ → List ℕ → List ℕ
head_of flags uid = magic ++ (version ∷ (flags ++ (uid ++ reserved)))

unfoldable pub header_of : List ℕ → List ℕ → List ℕ
header_of flags uid = head_of flags uid ++ (dowcrc_of (head_of flags uid) ∷ [])

-- read: the 16 flag bytes
abbrev pub flags_of : List ℕ → List ℕ
flags_of s = part s flags_at uid_at

-- 1: under 32 or over 2,097,152 bytes (02, W-210); 2: magic; 3: version not 1; 4: header checksum
abbrev pub wrong_length : List ℕ → Bool
wrong_length s = ltb (length s) header_size || ltb image_limit (length s)

abbrev pub wrong_magic : List ℕ → Bool
wrong_magic s = any (length magic) (λ i. not (eqb (get_or s i 0) (get_or magic i 0)))

abbrev pub wrong_version : List ℕ → Bool
wrong_version s = not (eqb (get_or s version_at 0) version)

abbrev pub wrong_header_sum : List ℕ → Bool
wrong_header_sum s = not (eqb (dowcrc_of (part s 0 sum_at)) (get_or s sum_at 0))

-- refusals 1 to 4, in that order; the header's refusal is that of the first that holds
unfoldable pub header_rows : List ℕ → List (Row Refusal)
header_rows s =
    (wrong_length s, refuse 1 0)
    ∷ (wrong_magic s, refuse 2 0)
    ∷ (wrong_version s, refuse 3 0)
    ∷ (wrong_header_sum s, refuse 4 0)
    ∷ []

abbrev pub header_refusal : List ℕ → Refusal
header_refusal s = first_refusal (header_rows s)
