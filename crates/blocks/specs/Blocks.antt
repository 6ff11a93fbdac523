-- A block is its bytes: type, payload length, checksum of these, checksum of the payload, payload (001, Block Header).
use Rattle.std.specs.Prelude.{ℕ, ◌+◌, ◌≡◌, List, ◌∷◌, ◌++◌, Bool, cond, ◌&&◌, length, get_or, take, drop, eqb, leb}
use Rattle.basics.specs.Bytes.{at16, at32, le16, le32}
use Rattle.sums.specs.Crc.{dowcrc_of, crc324_of}

-- the bytes before a payload, and of them the ones that the first checksum is of
abbrev pub frame_size : ℕ
frame_size = 8

abbrev pub start_size : ℕ
start_size = 3

-- read: what the bytes say
abbrev pub type_of : List ℕ → ℕ
type_of x = get_or x 0 0

abbrev pub size_said : List ℕ → ℕ
size_said x = at16 x 1

abbrev pub sum_said : List ℕ → ℕ
sum_said x = at32 x 4

abbrev pub payload_in : List ℕ → List ℕ
payload_in x = drop frame_size x

-- written: the frame of a payload of n bytes with this checksum; a payload, framed so; and framed with its own checksum
abbrev pub start_of : ℕ → ℕ → List ℕ
start_of type n = type ∷ le16 n

unfoldable pub frame_of : ℕ → ℕ → ℕ → List ℕ
frame_of type n sum = start_of type n ++ (dowcrc_of (start_of type n) ∷ le32 sum)

abbrev pub framed : ℕ → ℕ → List ℕ → List ℕ
framed type sum payload = frame_of type (length payload) sum ++ payload

abbrev pub block_of : ℕ → List ℕ → List ℕ
block_of type payload = framed type (crc324_of payload) payload

-- the longest payload that a block's length can say (001, Payload Length)
abbrev pub payload_limit : ℕ
payload_limit = 65535

-- a buffer with its payload in place, framed; as it was where it is too short or too long for a block
unfoldable pub put_frame : ℕ → ℕ → List ℕ → List ℕ
put_frame type sum out = cond (leb frame_size (length out) && leb (length out) (frame_size + payload_limit)) (framed type sum (payload_in out)) out

-- the types that a load looks at, and what stands where a type is expected at an image's end (01, File layout, refusal 7; 02, W-204)
abbrev pub encrypted_type : ℕ
encrypted_type = 0x00

abbrev pub tables_type : ℕ
tables_type = 0x01

abbrev pub hunk_type : ℕ
hunk_type = 0x02

abbrev pub metadata_type : ℕ
metadata_type = 0x03

abbrev pub end_mark : ℕ
end_mark = 0xFF

abbrev pub is_tables : List ℕ → Bool
is_tables x = eqb (type_of x) tables_type

abbrev pub is_hunk : List ℕ → Bool
is_hunk x = eqb (type_of x) hunk_type

abbrev pub is_metadata : List ℕ → Bool
is_metadata x = eqb (type_of x) metadata_type

-- bytes that are a whole block: as long as they say, the first checksum right, and not the end of an image
pub record Block (x : List ℕ) : Type 0 where
  pub long : length x ≡ frame_size + size_said x
  pub sum : dowcrc_of (take start_size x) ≡ get_or x start_size 0
  pub going : type_of x ≡ end_mark → ⊥
