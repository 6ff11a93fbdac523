-- One data block: the form that its start byte names, its words as they are read, and as they are written in a form
-- (001, Block Type 0x02: Data Hunk).
use Rattle.std.specs.Prelude.{ℕ, ◌-◌, ◌+◌, ◌/◌, ◌*◌, ◌^◌, ◌%◌, List, [], ◌∷◌, ◌++◌, cond, Bool, true, false, ltb, eqb, get_or, length, take}
use Rattle.basics.specs.Bytes.{at16, le16, bytes16}
use Rattle.basics.specs.Tables.{table}
use Rattle.hunk.specs.declared.Form.{Form}
use Rattle.hunk.specs.declared.Form.TheVariants.{Bytes, Decles, Words, Reserved}

-- the form that a start byte names: 8-bit, 10-bit, 16-bit, or none yet (001, "Start byte", Reserved Encodings)
unfoldable pub form_of : ℕ → Form
form_of b =
    cond (eqb b 0x00) Reserved
    (cond (ltb b 0x40) Bytes
    (cond (ltb b 0xC0) Decles
    (cond (ltb b 0xFE) Words
    Reserved)))

abbrev pub is_reserved : Form → Bool
is_reserved Bytes = false
is_reserved Decles = false
is_reserved Words = false
is_reserved Reserved = true

-- N, the number of words, by the start byte (001, "N = start_byte", "N = start_byte - 0x3F", "N = start_byte - 0xBF"); and back
abbrev pub count_for : Form → ℕ → ℕ
count_for Bytes b = b
count_for Decles b = b - 0x3F
count_for Words b = b - 0xBF
count_for Reserved b = 0

abbrev pub start_for : Form → ℕ → ℕ
start_for Bytes n = n
start_for Decles n = 0x3F + n
start_for Words n = 0xBF + n
start_for Reserved n = 0

-- the most words that the start bytes of a form can count (001, "0x01 to 0x3F", "0x40 to 0xBF", "0xC0 to 0xFD")
abbrev pub most_for : Form → ℕ
most_for Bytes = 0x3F
most_for Decles = 0xBF - 0x3F
most_for Words = 0xFD - 0xBF
most_for Reserved = 0

-- the number of bytes of n words, start byte included (001, "2 + N", "2 + ((N + 2) >> 2) + N", "1 + 2*N")
abbrev pub size_for : Form → ℕ → ℕ
size_for Bytes n = 2 + n
size_for Decles n = 2 + (n + 2) / 4 + n
size_for Words n = 1 + 2 * n
size_for Reserved n = 0

-- both, by the start byte alone
unfoldable pub count_of : ℕ → ℕ
count_of b = count_for (form_of b) b

unfoldable pub size_of : ℕ → ℕ
size_of b = size_for (form_of b) (count_of b)

-- decle k of the packet at a place: two bits of its first byte, bits 7 and 6 for the first decle, then a byte of its own (001, 10-bit Data Block)
unfoldable pub decle : List ℕ → ℕ → ℕ → ℕ
decle s at k = get_or s at 0 / 4 ^ (3 - k) % 4 * 256 + get_or s (at + 1 + k) 0

-- decle i of packets that stand one after the other from a place on: four to a packet, which has five bytes
unfoldable pub packed : List ℕ → ℕ → ℕ → ℕ
packed s at i = decle s (at + 5 * (i / 4)) (i % 4)

-- word i of the n words of a data block at p: bytes, or packets of four decles, and behind them one 16-bit word; or 16-bit words alone
abbrev pub word_for : Form → List ℕ → ℕ → ℕ → ℕ → ℕ
word_for Bytes s p n i = cond (eqb (i + 1) n) (at16 s (p + size_for Bytes n - 2)) (get_or s (p + 1 + i) 0)
word_for Decles s p n i = cond (eqb (i + 1) n) (at16 s (p + size_for Decles n - 2)) (packed s (p + 1) i)
word_for Words s p n i = at16 s (p + 1 + 2 * i)
word_for Reserved s p n i = 0

unfoldable pub word : List ℕ → ℕ → ℕ → ℕ
word s p i = word_for (form_of (get_or s p 0)) s p (count_of (get_or s p 0)) i

-- written: the lower byte of word i
unfoldable pub lower : List ℕ → ℕ → ℕ
lower ws i = get_or ws i 0 % 256

-- byte k of the packet of the four decles from word i on: two upper bits of each decle, the first decle's highest, and 0 where there is no
-- decle; then the lower byte of each (001, "MSBs byte")
unfoldable pub uppers : List ℕ → ℕ → ℕ
uppers ws i =
    64 * (get_or ws i 0 / 256 % 4) + 16 * (get_or ws (i + 1) 0 / 256 % 4) + 4 * (get_or ws (i + 2) 0 / 256 % 4) + get_or ws (i + 3) 0 / 256 % 4

unfoldable pub packet : List ℕ → ℕ → ℕ → ℕ
packet ws i k = cond (eqb k 0) (uppers ws i) (lower ws (i + (k - 1)))

-- byte k of the packets of all the words, which stand one after the other: the last is short where they are no multiple of four
unfoldable pub packets : List ℕ → ℕ → ℕ
packets ws k = packet ws (4 * (k / 5)) (k % 5)

-- the words of a data block before its last: a byte of each, packets of four decles, 16 bits of each
abbrev pub body_for : Form → List ℕ → List ℕ
body_for Bytes ws = table (length ws) (lower ws)
body_for Decles ws = table ((length ws + 3) / 4 + length ws) (packets ws)
body_for Words ws = bytes16 ws
body_for Reserved ws = []

-- all words but the last, and the last
abbrev pub but_last : List ℕ → List ℕ
but_last words = take (length words - 1) words

abbrev pub last_of : List ℕ → ℕ
last_of words = get_or words (length words - 1) 0

-- words as a data block of a form: its start byte, the words before the last, and the last as 16 bits (001, "Each block type terminates with a
-- 16-bit word")
unfoldable pub data_in : Form → List ℕ → List ℕ
data_in f words = start_for f (length words) ∷ (body_for f (but_last words) ++ le16 (last_of words))
