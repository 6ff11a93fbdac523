-- A table of answers, each with its condition: the answer is that of the first row whose condition holds.
use Rattle.std.specs.Prelude.{Bool, cond, true, false, List, [], ◌∷◌, ◌≡◌}

abbrev pub Row : Type 0 → Type 0
Row A = Bool × A

-- the first row that holds, or the last word where none does
abbrev pub first_of : {A : Type 0} → List (Row A) → A → A
first_of [] d = d
first_of (r ∷ rs) d = cond r.0 r.1 (first_of rs d)

-- a row that holds, with none before it that does, has this answer
pub data Gives {A : Type 0} : List (Row A) → A → Type 0 where
  here : {b : Bool} {a : A} {rs : List (Row A)} → b ≡ true → Gives ((b, a) ∷ rs) a
  later : {b : Bool} {c a : A} {rs : List (Row A)} → b ≡ false → Gives rs a → Gives ((b, c) ∷ rs) a

-- no row holds
pub data Silent {A : Type 0} : List (Row A) → Type 0 where
  none : Silent []
  also : {b : Bool} {a : A} {rs : List (Row A)} → b ≡ false → Silent rs → Silent ((b, a) ∷ rs)
