-- How a text is spelt, the values of hex digits (01, What a CFG may say: upper case, lower case, either case), and the digit of a value.
use Rattle.std.specs.Prelude.{ℕ, ◌-◌, ◌+◌, Bool, true, false, cond, ◌&&◌, List, [], ◌∷◌, leb, ltb, eqb}
use Prim.Native.Char.{code}
use Prim.Native.String.{String}
use Rattle.text.specs.Bytes.{text}

-- two texts are the same
unfoldable pub same : List ℕ → List ℕ → Bool
same [] [] = true
same [] (c ∷ t) = false
same (b ∷ s) [] = false
same (b ∷ s) (c ∷ t) = cond (eqb b c) (same s t) false

abbrev pub is : String → List ℕ → Bool
is t s = same s (text t)

-- a hex digit's value, in either case; 16 for any other byte
abbrev pub digit_of : ℕ → ℕ
digit_of b =
    cond (leb (code "0") b && leb b (code "9")) (b - code "0")
    (cond (leb (code "A") b && leb b (code "F")) (b - code "A" + 10)
    (cond (leb (code "a") b && leb b (code "f")) (b - code "a" + 10) 16))

-- the hex digit of a value below 16 as it is written, in upper case (02, W-213)
unfoldable pub upper_digit : ℕ → ℕ
upper_digit d = cond (ltb d 10) (code "0" + d) (code "A" + (d - 10))
