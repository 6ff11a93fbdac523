-- Products, quotients and remainders of words, by sign and size (02, W-206; 000, JLP Multiply and Divide Accelerators).
use Rattle.std.specs.Prelude.{ℕ, ◌-◌, ◌*◌, ◌/◌, ◌%◌, Bool, true, false, cond, not, ◌&&◌, leb, eqb}
use Rattle.jlp.specs.declared.arith.Number.{Number}
use Rattle.jlp.specs.declared.Results.{Results}

-- how many values a word has, and two words together
abbrev pub word_values : ℕ
word_values = 0x1_0000

abbrev pub long_values : ℕ
long_values = 0x1_0000_0000

-- a number by its sign and its size
abbrev pub number : Bool → ℕ → Number
number negative size = record { negative = negative; size = size }

-- the number that a word stands for: signed, $8000 and on are the negative ones
abbrev pub number_of : Bool → ℕ → Number
number_of signed w = cond (signed && leb 0x8000 w) (number true (word_values - w)) (number false w)

-- a number of this sign and size as one of m values: the negative ones from the top
abbrev pub word_of : ℕ → Bool → ℕ → ℕ
word_of m negative size = cond negative ((m - size) % m) size

abbrev pub unlike : Bool → Bool → Bool
unlike a b = cond a (not b) b

abbrev pub results : ℕ → ℕ → Results
results first second = record { first = first; second = second }

-- a product is negative where the signs differ, and its size is the product of the sizes
unfoldable pub product_of : Number → Number → ℕ
product_of a b = word_of long_values (unlike a.negative b.negative) (a.size * b.size)

-- its low and its high word, each factor signed or not
unfoldable pub multiplied : Bool → Bool → ℕ → ℕ → Results
multiplied sa sb a b =
    results (product_of (number_of sa a) (number_of sb b) % word_values) (product_of (number_of sa a) (number_of sb b) / word_values)

-- quotient and remainder, rounded toward zero: those of the sizes; the quotient is negative where the signs differ, and the remainder
-- has the dividend's sign
unfoldable pub quotient_of : Number → Number → Results
quotient_of a b =
    results (word_of word_values (unlike a.negative b.negative) (a.size / b.size)) (word_of word_values a.negative (a.size % b.size))

-- divisor 0 leaves both result words (02, W-206)
unfoldable pub divided : Bool → ℕ → ℕ → Results → Results
divided signed a b old = cond (eqb b 0) old (quotient_of (number_of signed a) (number_of signed b))
