-- A list of accesses (02, W-214): what its lines say, the first that is malformed, and how many of its accesses are reads. Its lines end as a CFG's.
use Rattle.std.specs.Prelude.{ℕ, ◌+◌, List, [], ◌∷◌, ◌++◌, cond}
use Rattle.std.proofs.Math.Option.{Option, none, some}
use Rattle.basics.specs.Options.{is_some}
use Rattle.text.specs.Lines.{lines_of}
use Rattle.cart.specs.Run.{Access, Read, Write, Reset}
use Rattle.accesses.specs.Line.{line_says}

-- the accesses that lines say, in order
abbrev pub said : Option Access → List Access
said none = []
said (some x) = x ∷ []

unfoldable pub accesses_in : List (List ℕ) → List Access
accesses_in [] = []
accesses_in (l ∷ ls) = said (line_says l) ++ accesses_in ls

abbrev pub accesses_of : List ℕ → List Access
accesses_of list = accesses_in (lines_of list)

-- the number of the first malformed line, or 0; lines are counted from n
unfoldable pub malformed_from : ℕ → List (List ℕ) → ℕ
malformed_from n [] = 0
malformed_from n (l ∷ ls) = cond (is_some (line_says l)) (malformed_from (n + 1) ls) n

abbrev pub malformed_line : List ℕ → ℕ
malformed_line list = malformed_from 1 (lines_of list)

-- how many of some accesses are reads, each of which has an answer
abbrev pub reads_by : Access → ℕ
reads_by (Read a) = 1
reads_by (Write a v) = 0
reads_by Reset = 0

unfoldable pub reads_in : List Access → ℕ
reads_in [] = 0
reads_in (x ∷ xs) = reads_by x + reads_in xs

abbrev pub reads_of : List ℕ → ℕ
reads_of list = reads_in (accesses_of list)
