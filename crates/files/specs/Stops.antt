-- What stops a program: a reading that failed does, and a file that is longer than its buffer does not.
use Rattle.std.specs.Prelude.{ℕ, Result, Ok, Err, Some}
use Rattle.files.specs.declared.errors.Errno.{Errno}
use Rattle.files.specs.declared.errors.Stop.{Stop}
use Rattle.files.specs.declared.errors.Why.{Why}
use Rattle.files.specs.declared.errors.Why.TheVariants.{Read}
use Rattle.files.specs.declared.reading.Broken.{Broken}
use Rattle.files.specs.declared.reading.Ending.{Ending}
use Rattle.files.specs.declared.reading.Ending.TheVariants.{Whole, Longer}
use Rattle.files.specs.declared.reading.Taken.{Taken}

abbrev pub stop_by : Why → Errno → Stop
stop_by why error = record { why = why; error = Some error }

-- a reading that ended goes on with what it brought, of a whole file and of a longer one
abbrev pub goes_on : Ending → ℕ → Result ℕ (Broken Stop)
goes_on Whole n = Ok n
goes_on Longer n = Ok n

abbrev pub stop_of : Result Taken (Broken Errno) → Result ℕ (Broken Stop)
stop_of (Ok taken) = goes_on taken.ending taken.n
stop_of (Err broken) = Err (record { error = stop_by Read broken.error; n = broken.n })
