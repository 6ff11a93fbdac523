-- A text as a shelf label shows it, so that no control byte reaches a screen: bytes 0x20 to 0x7E as they stand, but the backslash as two, and
-- any other byte as a backslash, an x and its two hexadecimal digits (02, W-204).
use Rattle.std.specs.Prelude.{ℕ, ◌/◌, ◌%◌, List, [], ◌∷◌, ◌++◌, Bool, cond, ◌||◌, length, drop, eqb, ltb}
use Rattle.basics.specs.Lists.{joined}
use Rattle.text.specs.Spelling.{upper_digit}

abbrev pub backslash : ℕ
backslash = 92

abbrev pub by_digits : ℕ → List ℕ
by_digits b = backslash ∷ 120 ∷ upper_digit (b / 16 % 16) ∷ upper_digit (b % 16) ∷ []

-- below 0x20 or above 0x7E
abbrev pub unseen : ℕ → Bool
unseen b = ltb b 0x20 || ltb 0x7E b

unfoldable pub escaped_byte : ℕ → List ℕ
escaped_byte b = cond (eqb b backslash) (backslash ∷ backslash ∷ []) (cond (unseen b) (by_digits b) (b ∷ []))

abbrev pub escaped : List ℕ → List ℕ
escaped text = joined escaped_byte text

-- it stands at a buffer's front, which has room for four bytes of each of the text's; where it has not, nothing is written and its length is 0
abbrev pub is_short : List ℕ → List ℕ → Bool
is_short out text = ltb (length out / 4) (length text)

unfoldable pub escaped_length : List ℕ → List ℕ → ℕ
escaped_length out text = cond (is_short out text) 0 (length (escaped text))

unfoldable pub escaped_in : List ℕ → List ℕ → List ℕ
escaped_in out text = cond (is_short out text) out (escaped text ++ drop (length (escaped text)) out)
