-- The payload of a metadata block is a series of sub-records: a tag byte, a length byte, and so many bytes of text (001, Block Type 0x03:
-- Program Metadata).
use Rattle.std.specs.Prelude.{ℕ, zero, suc, ◌+◌, List, [], ◌∷◌, map, Bool, cond, length, get_or, leb, ltb}
use Rattle.basics.specs.Lists.{part, joined}
use Rattle.metadata.specs.declared.Span.{Span}
use Rattle.metadata.specs.declared.Stands.{Stands}
use Rattle.metadata.specs.declared.Stands.TheVariants.{End, Cut, Text}

pub record Sub : Type 0 where
  pub tag : ℕ
  pub text : List ℕ

-- the bytes before a text: its tag and its length
abbrev pub head_size : ℕ
head_size = 2

-- written: one sub-record, and a series of them
abbrev pub sub_bytes : Sub → List ℕ
sub_bytes r = r.tag ∷ length r.text ∷ r.text

abbrev pub payload_of : List Sub → List ℕ
payload_of rs = joined sub_bytes rs

-- read: of the sub-record at place p its tag, the place behind it, and itself
abbrev pub tag_at : List ℕ → ℕ → ℕ
tag_at s p = get_or s p 0

abbrev pub end_at : List ℕ → ℕ → ℕ
end_at s p = p + head_size + get_or s (p + 1) 0

abbrev pub sub_at : List ℕ → ℕ → Sub
sub_at s p = record { tag = tag_at s p; text = part s (p + head_size) (end_at s p) }

-- it is whole: all its bytes stand in the payload
unfoldable pub whole_at : List ℕ → ℕ → Bool
whole_at s p = leb (end_at s p) (length s)

-- the places where sub-records start, from place p on, before the first that is cut
unfoldable pub starts_from : ℕ → List ℕ → ℕ → List ℕ
starts_from zero s p = []
starts_from (suc f) s p = cond (whole_at s p) (p ∷ starts_from f s (end_at s p)) []

unfoldable pub starts : List ℕ → List ℕ
starts s = starts_from (length s) s 0

-- the place behind sub-records that start at these places; p where there are none
abbrev pub end_from : List ℕ → ℕ → List ℕ → ℕ
end_from s p [] = p
end_from s p (q ∷ qs) = end_from s (end_at s q) qs

-- a payload is cut where its whole sub-records stop before its end (02, W-204)
unfoldable pub is_cut : List ℕ → Bool
is_cut s = ltb (end_from s 0 (starts s)) (length s)

-- the sub-records of a payload, up to its end or to the first that is cut
unfoldable pub subs_of : List ℕ → List Sub
subs_of s = map (sub_at s) (starts s)

-- where its text stands: from its first byte up to the place behind its last
abbrev pub span_at : List ℕ → ℕ → Span
span_at s p = record { from = p + head_size; to = end_at s p }

-- what stands at p: the payload's end, a sub-record that is cut, or a whole one with its tag and its text
unfoldable pub stands_at : List ℕ → ℕ → Stands
stands_at s p = cond (leb (length s) p) End (cond (whole_at s p) (Text (tag_at s p) (span_at s p)) Cut)
