-- The lines of a text (01, What a CFG may say): they end in LF, or CR LF; the last may lack it.
use Rattle.std.specs.Prelude.{ℕ, ◌+◌, List, [], ◌∷◌, Bool, cond, ◌||◌, eqb, get_or, drop}
use Rattle.basics.specs.Counts.{count}
use Rattle.text.specs.Bytes.{lf, cr_lf, until}

-- a byte's line is 1 + the LFs before it
abbrev pub line_of : List ℕ → ℕ → ℕ
line_of s at = 1 + count (λ i. eqb (get_or s i 0) lf) at

-- a byte before the first of some lines
abbrev pub on_first : ℕ → List (List ℕ) → List (List ℕ)
on_first b [] = (b ∷ []) ∷ []
on_first b (l ∷ ls) = (b ∷ l) ∷ ls

-- the lines, without their ends
unfoldable pub lines_of : List ℕ → List (List ℕ)
lines_of [] = []
lines_of (b ∷ s) = cond (eqb b lf) ([] ∷ lines_of s) (cond (cr_lf b (get_or s 0 0)) (lines_of s) (on_first b (lines_of s)))

-- a line ends at LF, or at CR LF
abbrev pub ends : ℕ → ℕ → Bool
ends b next = eqb b lf || cr_lf b next

-- where the line that stands at a place ends
abbrev pub line_end : List ℕ → ℕ → ℕ
line_end s at = at + until ends (drop at s)

-- how long the end is that a line has: LF, CR LF, or that of the text
abbrev pub end_length : List ℕ → ℕ
end_length [] = 0
end_length (b ∷ s) = cond (eqb b lf) 1 2

-- where the line after an end starts, and the one after the line that stands at a place
abbrev pub past_end : List ℕ → ℕ → ℕ
past_end s e = e + end_length (drop e s)

abbrev pub next_line : List ℕ → ℕ → ℕ
next_line s at = past_end s (line_end s at)
