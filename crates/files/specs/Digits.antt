-- Numbers below 16 as digits.
use Rattle.std.specs.Prelude.{ℕ, ◌+◌, cond, nat_lt}

-- the ASCII code of a digit below 16: `0` to `9`, then `a` to `f`
abbrev pub hex_digit_ascii : ℕ → ℕ
hex_digit_ascii d = cond (nat_lt d 10) (48 + d) (87 + d)
