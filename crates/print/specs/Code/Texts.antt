-- The line of an entry in an array of 32 bytes: its bytes, and zeros behind them.
use Rattle.std.specs.Prelude.{◌%◌, ◌+◌, ◌-◌, ℕ, List, ◌++◌, drop, length, replicate, take}
use Rattle.places.specs.Places.{page}
use Rattle.lines.specs.declared.Entry.{Entry}
use Rattle.lines.specs.declared.Entry.TheVariants.{Paged, Ram, Rom}
use Rattle.text.specs.Bytes.{text}
use Rattle.grammar.specs.Print.{four_digits}
use Rattle.print.specs.Cfg.{entry_line}
use Rattle.print.specs.declared.Text.{Text}

abbrev pub filled : List ℕ → List ℕ
filled x = x ++ replicate (32 - length x) 0

abbrev pub padded : List ℕ → Text
padded x = record { bytes = filled x; length = length x }

-- `$lo - $hi = RAM `, before the width
abbrev pub ram_front : ℕ → ℕ → List ℕ
ram_front lo hi = four_digits lo ++ (text " - " ++ (four_digits hi ++ text " = RAM "))

-- more bytes at its end
abbrev pub pushed : Text → List ℕ → Text
pushed t x = record { bytes = take t.length t.bytes ++ (x ++ drop (t.length + length x) t.bytes); length = t.length + length x }

-- a page's number is one digit
abbrev pub page_digit : Entry → Entry
page_digit (Rom lo hi at) = Rom lo hi at
page_digit (Paged lo hi at y) = Paged lo hi at (page (y.0 % 16))
page_digit (Ram lo hi w) = Ram lo hi w

unfoldable pub text_of : Entry → Text
text_of e = padded (entry_line (page_digit e))
