-- The integers that words stand for (000, JLP Multiply and Divide Accelerators).
use Rattle.std.specs.Prelude.{ℕ, ◌+◌, ◌-◌, ◌*◌, ◌/◌, Bool, cond, ◌&&◌, leb, ℤ, pos, neg_ℤ}
use Rattle.jlp.specs.declared.Results.{Results}
use Rattle.jlp.specs.Arith.{word_values, long_values}

-- the integer that one of m values stands for: signed, the upper half are the negative ones
abbrev pub integer_of : ℕ → Bool → ℕ → ℤ
integer_of m signed n = cond (signed && leb (m / 2) n) (neg_ℤ (pos (m - n))) (pos n)

-- of a word, and of two result words, the low one first
abbrev pub value_of : Bool → ℕ → ℤ
value_of signed w = integer_of word_values signed w

abbrev pub long_of : Bool → Results → ℤ
long_of signed r = integer_of long_values signed (r.first + word_values * r.second)
