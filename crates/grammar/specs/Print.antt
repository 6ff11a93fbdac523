-- An entry as a CFG line has it when one is written (02, W-213): 01's form, upper case, five digits for offsets, four for addresses.
use Rattle.std.specs.Prelude.{◌%◌, ◌/◌, ℕ, List, [], ◌++◌, ◌∷◌}
use Prim.Native.Char.{code}
use Rattle.text.specs.Bytes.{text}
use Rattle.text.specs.Spelling.{upper_digit}
use Rattle.lines.specs.declared.Entry.{Entry}
use Rattle.lines.specs.declared.Entry.TheVariants.{Paged, Ram, Rom}
use Rattle.lines.specs.declared.Width.{Width}
use Rattle.lines.specs.declared.Width.TheVariants.{Eight, Sixteen}

-- `$` and four digits, `$` and five
abbrev pub four_digits : ℕ → List ℕ
four_digits n =
    code "$" ∷ upper_digit (n / 4096 % 16) ∷ upper_digit (n / 256 % 16) ∷ upper_digit (n / 16 % 16) ∷ upper_digit (n % 16) ∷ []

abbrev pub five_digits : ℕ → List ℕ
five_digits n =
    code "$" ∷ upper_digit (n / 65536 % 16) ∷ upper_digit (n / 4096 % 16) ∷ upper_digit (n / 256 % 16) ∷ upper_digit (n / 16 % 16) ∷ upper_digit (n % 16) ∷ []

abbrev pub width_text : Width → List ℕ
width_text Sixteen = text "16"
width_text Eight = text "8"

-- `$lo - $hi = $addr`, `$lo - $hi = $addr PAGE d`, `$lo - $hi = RAM 16` or `RAM 8`
abbrev pub entry_text : Entry → List ℕ
entry_text (Rom lo hi at) = five_digits lo.0 ++ (text " - " ++ (five_digits hi.0 ++ (text " = " ++ four_digits at.0)))
entry_text (Paged lo hi at y) =
    five_digits lo.0 ++ (text " - " ++ (five_digits hi.0 ++ (text " = " ++ (four_digits at.0 ++ (text " PAGE " ++ (upper_digit y.0 ∷ []))))))
entry_text (Ram lo hi w) = four_digits lo.0 ++ (text " - " ++ (four_digits hi.0 ++ (text " = RAM " ++ width_text w)))
