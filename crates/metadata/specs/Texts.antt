-- The texts with a tag among the sub-records of a payload, the n-th of them, and single-value tags given twice (02, W-204).
use Rattle.std.specs.Prelude.{ℕ, zero, suc, List, [], ◌∷◌, Bool, cond, ◌&&◌, ◌||◌, length, leb, eqb, Result, Ok, Err}
use Rattle.metadata.specs.declared.Span.{Span}
use Rattle.metadata.specs.Records.{tag_at, span_at, starts}

-- the tags that 001 names are 0x00 to 0x0F; of two of them a file has one value only (001, Metadata Tags)
abbrev pub last_tag : ℕ
last_tag = 0x0F

abbrev pub name_tag : ℕ
name_tag = 0x00

abbrev pub short_name_tag : ℕ
short_name_tag = 0x01

abbrev pub is_single : ℕ → Bool
is_single tag = eqb tag name_tag || eqb tag short_name_tag

-- of the sub-records that start at these places, the texts of those with the tag; none for a tag that 001 does not name
unfoldable pub texts_in : ℕ → List ℕ → List ℕ → List Span
texts_in tag s [] = []
texts_in tag s (p ∷ ps) = cond (leb tag last_tag && eqb (tag_at s p) tag) (span_at s p ∷ texts_in tag s ps) (texts_in tag s ps)

abbrev pub texts_of : ℕ → List ℕ → List Span
texts_of tag s = texts_in tag s (starts s)

-- the n-th of some texts, from 1; where they are fewer, how many are still to be passed, and none for n = 0
unfoldable pub seek_in : ℕ → List Span → Result Span ℕ
seek_in n [] = Err n
seek_in zero (x ∷ xs) = Err 0
seek_in (suc zero) (x ∷ xs) = Ok x
seek_in (suc (suc n)) (x ∷ xs) = seek_in (suc n) xs

-- of all texts with the tag: it has a single value, and more are given
abbrev pub given_twice : ℕ → List Span → Bool
given_twice tag texts = is_single tag && leb 2 (length texts)
