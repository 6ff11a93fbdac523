-- What a read's answer means: an error is no end (POSIX, read).
use Rattle.std.specs.Prelude.{ℕ, zero, suc, min, Result, Ok, Err, Option, Some, None}
use Rattle.files.specs.declared.errors.Errno.{Errno}
use Rattle.files.specs.declared.reading.Ending.{Ending}
use Rattle.files.specs.declared.reading.Ending.TheVariants.{Whole, Longer}

abbrev pub meaning_of : Result ℕ Errno → ℕ → Result (Option ℕ) Errno
meaning_of (Ok zero) room = Ok None
meaning_of (Ok (suc k)) room = Ok (Some (min (suc k) room))
meaning_of (Err error) room = Err error

abbrev pub count_in : Result (Option ℕ) Errno → ℕ
count_in (Ok (Some k)) = k
count_in (Ok None) = 0
count_in (Err error) = 0

-- a file that has filled its buffer, by what one more read brings
abbrev pub ending_of : Option ℕ → Ending
ending_of (Some k) = Longer
ending_of None = Whole
