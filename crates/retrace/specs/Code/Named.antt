-- Words that two RAMs name: a word is named where both hold the same.
use Rattle.std.specs.Prelude.{◌*◌, ◌+◌, ℕ, List, Bool, eqb, get_or}
use Rattle.basics.specs.Counts.{all}
use Rattle.places.specs.Limits.{paragraph_size}

abbrev pub word_named : List ℕ → List ℕ → ℕ → Bool
word_named zeros ones i = eqb (get_or zeros i 0) (get_or ones i 0)

-- all words of paragraph p
abbrev pub named_in : List ℕ → List ℕ → ℕ → Bool
named_in zeros ones p = all paragraph_size (λ i. word_named zeros ones (paragraph_size * p + i))
