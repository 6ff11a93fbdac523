-- A line of a list of accesses, and the access that it says (02, W-214): `op=x`, `op=r addr=HHHH` or `op=w addr=HHHH value=HHHH`, and nothing else.
use Rattle.std.specs.Prelude.{ℕ, ◌+◌, ◌*◌, List, [], ◌∷◌, Bool, not, ◌&&◌, eqb, get_or, length}
use Rattle.std.proofs.Math.Option.{Option, none, some}
use Rattle.basics.specs.Lists.{part}
use Rattle.basics.specs.Rows.{first_of}
use Rattle.places.specs.Places.{console}
use Rattle.text.specs.Spelling.{is, digit_of}
use Rattle.cart.specs.Run.{Access, Read, Write, Reset}

-- the value of the hex digit at a place, of either case
abbrev pub digit_at : List ℕ → ℕ → ℕ
digit_at l i = digit_of (get_or l i 0)

abbrev pub is_digit : List ℕ → ℕ → Bool
is_digit l i = not (eqb (digit_at l i) 16)

-- four hex digits from a place on, and the word that they make
unfoldable pub digits_at : List ℕ → ℕ → Bool
digits_at l i = is_digit l i && (is_digit l (i + 1) && (is_digit l (i + 2) && is_digit l (i + 3)))

unfoldable pub word_at : List ℕ → ℕ → ℕ
word_at l i = ((digit_at l i * 16 + digit_at l (i + 1)) * 16 + digit_at l (i + 2)) * 16 + digit_at l (i + 3)

-- the three forms: what is spelt out, and the digits between
unfoldable pub is_reset : List ℕ → Bool
is_reset l = is "op=x" l

unfoldable pub is_read : List ℕ → Bool
is_read l = eqb (length l) 14 && (is "op=r addr=" (part l 0 10) && digits_at l 10)

unfoldable pub is_write : List ℕ → Bool
is_write l = eqb (length l) 25 && (is "op=w addr=" (part l 0 10) && (is " value=" (part l 14 21) && (digits_at l 10 && digits_at l 21)))

-- the access that a line says; none where it is malformed
unfoldable pub line_says : List ℕ → Option Access
line_says l =
    first_of
    ((is_reset l, some Reset) ∷ (is_read l, some (Read (console (word_at l 10)))) ∷ (is_write l, some (Write (console (word_at l 10)) (word_at l 21))) ∷ [])
    none
