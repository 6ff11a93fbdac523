-- Words as the accelerators that they are lay them out: the field a byte, on 0 or 1.
use Rattle.std.specs.Prelude.{List, ◌≡◌, ℕ}
use Rattle.registers.specs.Words.{words_of, jlp_from}

abbrev pub Tidy : List ℕ → Type 0
Tidy w = w ≡ words_of (jlp_from w)
