-- Salvage as the program has it: the card's 30 is asked before all else (02, W-208; 01, refusal 30).
use Rattle.std.specs.Prelude.{ℕ, List, ◌∷◌, cond, length, ltb}
use Rattle.basics.specs.declared.Refusal.{Refusal}
use Rattle.basics.specs.Rows.{Row}
use Rattle.basics.specs.Refusals.{refuse}
use Rattle.places.specs.Limits.{card_limit}
use Rattle.recovery.specs.Salvage.{Salvaging, refusal_rows, refused, salvaging_of, written_of}

abbrev pub card_rows : List ℕ → List ℕ → List (Row Refusal)
card_rows out s = (ltb card_limit (length s), refuse 30 0) ∷ refusal_rows out s

unfoldable pub answer_of : List ℕ → List ℕ → Salvaging
answer_of out s = cond (ltb card_limit (length s)) (refused (refuse 30 0) 0) (salvaging_of out s)

unfoldable pub answered_of : List ℕ → List ℕ → List ℕ
answered_of out s = cond (ltb card_limit (length s)) out (written_of out s)
