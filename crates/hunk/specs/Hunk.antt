-- A data hunk: a word address and words; its payload as it is read, checked, stored and written (001, Block Type 0x02: Data Hunk).
use Rattle.std.specs.Prelude.{ℕ, ◌+◌, ◌%◌, ◌^◌, zero, suc, List, [], ◌∷◌, ◌++◌, map, cond, Bool, ◌&&◌, not, true, false, ltb, leb, eqb, get_or, length, Result, Ok, Err}
use Rattle.basics.specs.Bytes.{at24, le24}
use Rattle.basics.specs.Tables.{table}
use Rattle.basics.specs.Lists.{lay, joined}
use Rattle.places.specs.declared.Locutus.{Locutus}
use Rattle.places.specs.Places.{locutus}
use Rattle.places.specs.Limits.{lent}
use Rattle.hunk.specs.declared.Form.{Form}
use Rattle.hunk.specs.Forms.{form_of, is_reserved, count_of, size_of, word}
use Rattle.hunk.specs.Smallest.{data_of}
use Rattle.hunk.specs.Cuts.{cuts_of}

-- where its words go, and the words
pub record Hunk : Type 0 where
  pub address : Locutus
  pub words : List ℕ

abbrev pub hunk : Locutus → List ℕ → Hunk
hunk address words = record { address = address; words = words }

-- the word address that a payload starts with (001, "3 byte address (24-bit word address)")
abbrev pub address : List ℕ → Locutus
address s = locutus (at24 s 0)

-- the data block at place p: its form, its number of words and of bytes, and its words
abbrev pub form_at : List ℕ → ℕ → Form
form_at s p = form_of (get_or s p 0)

abbrev pub count_at : List ℕ → ℕ → ℕ
count_at s p = count_of (get_or s p 0)

abbrev pub size_at : List ℕ → ℕ → ℕ
size_at s p = size_of (get_or s p 0)

abbrev pub words_at : List ℕ → ℕ → List ℕ
words_at s p = table (count_at s p) (word s p)

-- it is neither reserved nor cut: all its bytes stand in the payload (01, refusal 9)
unfoldable pub whole_at : List ℕ → ℕ → Bool
whole_at s p = not (is_reserved (form_at s p)) && leb (p + size_at s p) (length s)

-- the places where data blocks start, from place p on, before the first that is cut or reserved (001, "a series of blocks")
unfoldable pub data_starts_from : ℕ → List ℕ → ℕ → List ℕ
data_starts_from zero s p = []
data_starts_from (suc f) s p = cond (whole_at s p) (p ∷ data_starts_from f s (p + size_at s p)) []

unfoldable pub data_starts : List ℕ → List ℕ
data_starts s = data_starts_from (length s) s 3

-- the place behind data blocks that start at these places; p where there are none
abbrev pub end_from : List ℕ → ℕ → List ℕ → ℕ
end_from s p [] = p
end_from s p (q ∷ qs) = end_from s (q + size_at s q) qs

-- where the data blocks of a payload stop: at its end, or at the first that is cut or reserved
unfoldable pub end_of : List ℕ → ℕ
end_of s = end_from s 3 (data_starts s)

-- the words of a payload: those of its data blocks, one after the other
unfoldable pub words_of : List ℕ → List ℕ
words_of s = joined (words_at s) (data_starts s)

-- how a payload is cut: the words of each of its data blocks, and how many they are
abbrev pub cuts_in : List ℕ → List (List ℕ)
cuts_in s = map (words_at s) (data_starts s)

abbrev pub counts_in : List ℕ → List ℕ
counts_in s = map (count_at s) (data_starts s)

abbrev pub hunk_of : List ℕ → Hunk
hunk_of s = hunk (address s) (words_of s)

-- the check of data blocks that start at these places, with n words of the hunk before them: it breaks at the first that has a word outside
-- m words of RAM; else where the data blocks stop before the payload's end; else it is whole, and has so many words
unfoldable pub check_blocks : List ℕ → ℕ → ℕ → List ℕ → Result ℕ ℕ
check_blocks s m n [] = cond (eqb (end_of s) (length s)) (Ok n) (Err (end_of s))
check_blocks s m n (p ∷ ps) = cond (ltb m ((address s).0 + (n + count_at s p))) (Err p) (check_blocks s m (n + count_at s p) ps)

-- the check of a hunk for m words of RAM; where the payload is cut before any data block, its first byte is named (01, refusal 9)
unfoldable pub check_hunk : List ℕ → ℕ → Result ℕ ℕ
check_hunk s m = cond (ltb (length s) 3) (Err 0) (check_blocks s m 0 (data_starts s))

abbrev pub broken : Result ℕ ℕ → Bool
broken (Ok n) = false
broken (Err k) = true

-- the byte where it breaks, from the payload's first on (02, W-205); 0 where it is whole
abbrev pub break_of : Result ℕ ℕ → ℕ
break_of (Ok n) = 0
break_of (Err k) = k

-- the RAM with a hunk's words laid from its address on; as it was where the check does not pass for the words lent
unfoldable pub store_hunk : List ℕ → List ℕ → List ℕ
store_hunk s ram = cond (broken (check_hunk s (lent ram))) ram (lay (address s).0 (words_of s) ram)

-- a hunk as a payload: the low 24 bits of its address, then a data block for each of its cuts
unfoldable pub hunk_payload : Hunk → List ℕ
hunk_payload h = le24 (h.address.0 % 2 ^ 24) ++ joined data_of (cuts_of h.words)

-- its number of bytes, whatever the address: three, and those of the data blocks
unfoldable pub payload_size : List ℕ → ℕ
payload_size words = 3 + length (joined data_of (cuts_of words))
