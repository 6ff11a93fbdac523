-- The rule of the floor: over what a whole file may be moved. Never over a file that was read, through a link, or over what is no
-- regular file.
use Rattle.std.specs.Prelude.{ℕ, ◌/◌, ◌%◌, Bool, false, cond, not, ◌&&◌, ◌||◌, List, [], ◌∷◌, eqb, Result, Ok, Err}
use Rattle.basics.specs.Rows.{Row, first_of}
use Rattle.files.specs.declared.errors.Errno.{Errno}
use Rattle.files.specs.declared.errors.Why.{Why}
use Rattle.files.specs.declared.errors.Why.TheVariants.{Look, Link, Kind, Input}
use Rattle.files.specs.declared.sight.Seen.{Seen}

-- the kind of a file, in the upper bits of its mode: 8 is a regular file, 10 a symbolic link (POSIX, sys/stat.h)
abbrev pub kind_of : ℕ → ℕ
kind_of mode = mode / 4096 % 16

-- they are one number on one device
abbrev pub same_file : Seen → Seen → Bool
same_file a b = eqb a.device b.device && eqb a.node b.node

unfoldable pub is_input : Seen → List Seen → Bool
is_input seen [] = false
is_input seen (input ∷ inputs) = same_file seen input || is_input seen inputs

-- over a regular file that was not read
abbrev pub verdict_rows : Seen → List Seen → List (Row (Result (Unit {0}) Why))
verdict_rows seen inputs =
    (eqb (kind_of seen.mode) 10, Err Link)
    ∷ (not (eqb (kind_of seen.mode) 8), Err Kind)
    ∷ (is_input seen inputs, Err Input)
    ∷ []

-- a name that nothing has is free (2 is the system's ENOENT), and nothing is moved over what the system tells nothing of
unfoldable pub verdict_of : Result Seen Errno → List Seen → Result (Unit {0}) Why
verdict_of (Ok seen) inputs = first_of (verdict_rows seen inputs) (Ok tt)
verdict_of (Err error) inputs = cond (eqb error.0 2) (Ok tt) (Err Look)
