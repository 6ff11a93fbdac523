-- A refusal: its number and its place, and 0 and 0 where nothing is refused (01, Numbers that come back).
use Rattle.std.specs.Prelude.{ℕ, List, Bool, cond, eqb, Result, Ok, Err}
use Rattle.basics.specs.declared.Refusal.{Refusal}
use Rattle.basics.specs.declared.Declined.{Declined}
use Rattle.basics.specs.Rows.{Row, first_of}

abbrev pub refuse : ℕ → ℕ → Refusal
refuse number place = record { number = number; place = place }

abbrev pub no_refusal : Refusal
no_refusal = refuse 0 0

-- of a table of refusals, that of the first row that holds
abbrev pub first_refusal : List (Row Refusal) → Refusal
first_refusal rows = first_of rows no_refusal

-- nothing is refused
abbrev pub passes : Refusal → Bool
passes r = eqb r.number 0

-- what a function answers that a refusal stops: the value where nothing is refused, else the refusal
abbrev pub outcome : {A : Type 0} → Refusal → A → Result A Refusal
outcome r a = cond (passes r) (Ok a) (Err r)

abbrev pub passed : Refusal → Result (Unit {0}) Refusal
passed r = outcome r tt

-- the same of a function that writes, whose refusal tells a length too
abbrev pub declined : Refusal → ℕ → Declined
declined r long = record { refusal = r; length = long }

abbrev pub outcome_at : {A : Type 0} → Refusal → ℕ → A → Result A Declined
outcome_at r long a = cond (passes r) (Ok a) (Err (declined r long))
