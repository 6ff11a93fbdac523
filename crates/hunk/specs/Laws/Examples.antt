-- 001's Encoded Example, all 62 bytes, as a hunk at word 2 (the dump prints "336" for one decle: bytes and listing say 366); and data
-- blocks that are written, its own among them.
use Rattle.std.specs.Prelude.{Ok, Err}
use Rattle.std.specs.Prelude.{ℕ, List, ◌∷◌, [], ◌++◌, ◌≡◌, refl, length, take, replicate}
use Rattle.basics.specs.Bytes.{bytes16}
use Rattle.basics.specs.Tables.{made}
use Rattle.basics.specs.Lists.{part, laid, joined}
use Rattle.places.specs.Places.{locutus}
use Rattle.hunk.specs.Forms.{form_of, count_of, size_of, word, packed, decle, lower, uppers, packet, packets, data_in}
use Rattle.hunk.specs.Smallest.{largest, carries, smaller, form_for, data_of}
use Rattle.hunk.specs.Cuts.{cuts_of, pieces}
use Rattle.hunk.specs.Hunk.{hunk, whole_at, data_starts_from, data_starts, end_of, words_of, check_blocks, check_hunk, store_hunk, hunk_payload}

-- the 62 bytes, a data block to a line
abbrev pub encoded : List ℕ
encoded =
    0x46 ∷ 0x92 ∷ 0x40 ∷ 0x00 ∷ 0x40 ∷ 0x40 ∷ 0x60 ∷ 0x01 ∷ 0xB8 ∷ 0x5F ∷ 0x7A ∷
    0x41 ∷ 0x80 ∷ 0x40 ∷ 0xFF ∷ 0x7F ∷
    0x44 ∷ 0x12 ∷ 0x04 ∷ 0x54 ∷ 0x42 ∷ 0xBC ∷ 0x40 ∷ 0x80 ∷
    0x41 ∷ 0x80 ∷ 0xB9 ∷ 0x4F ∷ 0x1F ∷
    0x50 ∷ 0x10 ∷ 0x04 ∷ 0x54 ∷ 0x46 ∷ 0x02 ∷ 0x66 ∷ 0xC0 ∷ 0x40 ∷ 0x2E ∷ 0x40 ∷ 0x44 ∷ 0x02 ∷ 0x04 ∷ 0x54 ∷ 0x30 ∷ 0x04 ∷ 0x01 ∷ 0x04 ∷ 0x54 ∷ 0x51 ∷ 0xA8 ∷ 0x56 ∷
    0x45 ∷ 0x1C ∷ 0x04 ∷ 0x50 ∷ 0x66 ∷ 0x00 ∷ 0x80 ∷ 0x20 ∷ 0x09 ∷ 0x00 ∷ []

abbrev pub payload : List ℕ
payload = 2 ∷ 0 ∷ 0 ∷ encoded

-- the 39 words of the listing above it
abbrev pub listing : List ℕ
listing =
    0x0240 ∷ 0x0100 ∷ 0x0040 ∷ 0x0240 ∷ 0x0101 ∷ 0x02B8 ∷ 0x7A5F ∷
    0x0240 ∷ 0x7FFF ∷
    0x0004 ∷ 0x0154 ∷ 0x0042 ∷ 0x02BC ∷ 0x8040 ∷
    0x02B9 ∷ 0x1F4F ∷
    0x0004 ∷ 0x0154 ∷ 0x0046 ∷ 0x0002 ∷ 0x01C0 ∷ 0x0240 ∷ 0x012E ∷ 0x0240 ∷ 0x0102 ∷ 0x0004 ∷ 0x0154 ∷ 0x0030 ∷ 0x0001 ∷ 0x0004 ∷ 0x0154 ∷ 0x0051 ∷ 0x56A8 ∷
    0x0004 ∷ 0x0150 ∷ 0x0366 ∷ 0x0000 ∷ 0x0220 ∷ 0x0009 ∷ []

pub bytes : length encoded ≡ 62
bytes = refl

pub decodes : words_of payload ≡ listing
unfolding words_of data_starts data_starts_from whole_at form_of count_of size_of word packed decle made joined
decodes = refl

-- it needs 41 words of RAM; in 40 the last data block, at byte 55, holds the first word outside
pub passes : check_hunk payload 41 ≡ Ok 39
unfolding check_hunk check_blocks end_of data_starts data_starts_from whole_at form_of count_of size_of
passes = refl

pub one_past : check_hunk payload 40 ≡ Err 55
unfolding check_hunk check_blocks end_of data_starts data_starts_from whole_at form_of count_of size_of
one_past = refl

-- cut by its last byte; cut before any data block; a reserved start byte behind it
pub cut : check_hunk (take 64 payload) 41 ≡ Err 55
unfolding check_hunk check_blocks end_of data_starts data_starts_from whole_at form_of count_of size_of
cut = refl

pub no_address : check_hunk (2 ∷ 0 ∷ []) 41 ≡ Err 0
unfolding check_hunk
no_address = refl

pub reserved : check_hunk (payload ++ (0xFE ∷ [])) 41 ≡ Err 65
unfolding check_hunk check_blocks end_of data_starts data_starts_from whole_at form_of count_of size_of
reserved = refl

-- in 44 words it is stored, in 40 nothing is
pub stores : store_hunk payload (replicate 44 0) ≡ 0 ∷ 0 ∷ (listing ++ (0 ∷ 0 ∷ 0 ∷ []))
unfolding store_hunk laid words_of check_hunk check_blocks end_of data_starts data_starts_from whole_at form_of count_of size_of word packed decle made joined
stores = refl

pub stores_nothing : store_hunk payload (replicate 40 0) ≡ replicate 40 0
unfolding store_hunk check_hunk check_blocks end_of data_starts data_starts_from whole_at form_of count_of size_of
stores_nothing = refl

-- written: 001's data blocks of more than two words, each as it stands there
pub first_written : data_of (take 7 listing) ≡ take 11 encoded
unfolding data_of data_in form_for smaller carries largest bytes16 made lower uppers packet packets
first_written = refl

pub third_written : data_of (part listing 9 14) ≡ part encoded 16 24
unfolding data_of data_in form_for smaller carries largest bytes16 made lower uppers packet packets
third_written = refl

pub fifth_written : data_of (part listing 16 33) ≡ part encoded 29 52
unfolding data_of data_in form_for smaller carries largest bytes16 made lower uppers packet packets
fifth_written = refl

pub sixth_written : data_of (part listing 33 39) ≡ part encoded 52 62
unfolding data_of data_in form_for smaller carries largest bytes16 made lower uppers packet packets
sixth_written = refl

-- its other two have two words, where 10-bit and 16-bit take as many bytes and 16-bit comes first; a word alone takes three bytes in each form
pub tie_of_two : data_of (0x0240 ∷ 0x7FFF ∷ []) ≡ 0xC1 ∷ 0x40 ∷ 0x02 ∷ 0xFF ∷ 0x7F ∷ []
unfolding data_of data_in form_for smaller carries largest bytes16 made lower uppers packet packets
tie_of_two = refl

pub tie_of_one : data_of (0x0009 ∷ []) ≡ 0xC0 ∷ 0x09 ∷ 0x00 ∷ []
unfolding data_of data_in form_for smaller carries largest bytes16 made lower uppers packet packets
tie_of_one = refl

-- bytes, and the word behind them, which may be any; a hunk
pub bytes_written : data_of (0x41 ∷ 0x00 ∷ 0x7FFF ∷ []) ≡ 0x03 ∷ 0x41 ∷ 0x00 ∷ 0xFF ∷ 0x7F ∷ []
unfolding data_of data_in form_for smaller carries largest bytes16 made lower uppers packet packets
bytes_written = refl

pub writes : hunk_payload (hunk (locutus 0x12345) (0x41 ∷ 0x7FFF ∷ [])) ≡ 0x45 ∷ 0x23 ∷ 0x01 ∷ 0x02 ∷ 0x41 ∷ 0xFF ∷ 0x7F ∷ []
unfolding hunk_payload cuts_of pieces joined data_of data_in form_for smaller carries largest bytes16 made lower uppers packet packets
writes = refl
