-- Worked examples: texts as a label shows them.
use Rattle.std.specs.Prelude.{◌≡◌, refl, [], ◌∷◌}
use Rattle.basics.specs.Lists.{joined}
use Rattle.text.specs.Spelling.{upper_digit}
use Rattle.shelf.specs.Escaped.{escaped_byte, escaped}

-- `A\`, a line feed and `~`; then 0x7F, 0x80 and 0xFF; and no bytes
pub signs : escaped (0x41 ∷ 0x5C ∷ 0x0A ∷ 0x7E ∷ []) ≡ 0x41 ∷ 0x5C ∷ 0x5C ∷ 0x5C ∷ 0x78 ∷ 0x30 ∷ 0x41 ∷ 0x7E ∷ []
unfolding joined escaped_byte upper_digit
signs = refl

pub above : escaped (0x7F ∷ 0x80 ∷ 0xFF ∷ []) ≡ 0x5C ∷ 0x78 ∷ 0x37 ∷ 0x46 ∷ 0x5C ∷ 0x78 ∷ 0x38 ∷ 0x30 ∷ 0x5C ∷ 0x78 ∷ 0x46 ∷ 0x46 ∷ []
unfolding joined escaped_byte upper_digit
above = refl

pub nothing : escaped [] ≡ []
unfolding joined
nothing = refl
