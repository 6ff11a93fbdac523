-- 001's twelve vectors, bench cases 1 and 2 among them: what the definitions give, by evaluation, as one table under one statement.
use Rattle.std.specs.Prelude.{ℕ, List, ◌∷◌, []}

abbrev pub up_to15 : List ℕ
up_to15 = 0 ∷ 1 ∷ 2 ∷ 3 ∷ 4 ∷ 5 ∷ 6 ∷ 7 ∷ 8 ∷ 9 ∷ 10 ∷ 11 ∷ 12 ∷ 13 ∷ 14 ∷ 15 ∷ []

abbrev pub four : List ℕ
four = 0x4A ∷ 0x5A ∷ 0x6A ∷ 0x7A ∷ []
