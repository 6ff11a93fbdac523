-- The lines of a list one by one: those passed, and those left.
use Prim.Native.Nat.{ℕ, ◌≤◌, ◌<◌, ◌+◌, zero, suc}
use mathlib.Core.List.{List, ◌∷◌, [], ◌++◌}
use mathlib.Core.Path.{◌≡◌}
use native.Mathlib.Numerals.{add-one}
use lib.ListN.{length, drop, take, get_or, drop_of_length-le}
use lib.Seq.{drop-cons, take-suc, take_all}
use Rattle.basics.specs.Lists.{Each, none, also}
use Rattle.lines.specs.declared.Line.{Line}
use Rattle.lines.specs.declared.Entry.{Entry}
use Rattle.lines.specs.declared.Entry.TheVariants.{Rom}
use Rattle.lines.specs.Typed.{All, nil, cons}
use Rattle.lines.specs.Laws.Lines.{all_at}

-- a line that stands for none: all zero
abbrev pub no_line : Line
no_line = record { source = 0; entry = Rom (record { 0 = 0 }) (record { 0 = 0 }) (record { 0 = 0 }) }

module _ (lines : List Line) (k : ℕ) (l : k < length lines) where
  pub next_line_lem : drop k lines ≡ get_or lines k no_line ∷ drop (k + 1) lines
  next_line_lem = rw (add-one, drop-cons lines k no_line l)

  pub passed_line : take (k + 1) lines ≡ take k lines ++ (get_or lines k no_line ∷ [])
  passed_line = rw add-one (take-suc lines k no_line l)

  -- a line of lines that all are so
  pub all_line : {P : Entry → Type 0} → All P lines → P (get_or lines k no_line).entry
  all_line a = all_at a no_line k l

pub last_line : (lines : List Line) (k : ℕ) → length lines ≤ k → drop k lines ≡ []
last_line lines k l = drop_of_length-le lines {i = k} l

pub all_lines : (lines : List Line) (k : ℕ) → k ≤ length lines → length lines ≤ k → take k lines ≡ lines
all_lines lines k m l = take_all k lines l

-- those before a line
pub all_passed : {P : Entry → Type 0} (k : ℕ) {ls : List Line} → All P ls → All P (take k ls)
all_passed zero a = nil
all_passed (suc k) nil = nil
all_passed (suc k) (cons p ps) = cons p (all_passed k ps)

pub each_passed : {P : Line → Type 0} (k : ℕ) {ls : List Line} → Each P ls → Each P (take k ls)
each_passed zero a = none
each_passed (suc k) none = none
each_passed (suc k) (also p ps) = also p (each_passed k ps)
