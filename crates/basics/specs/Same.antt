-- What it means that a promise determines the answer (01, What the promises rule out). A promise is what a contract tells its
-- callers of the arguments, the answer, and what is lent as it comes back: the `Learnt` that the check makes of it.
use Rattle.std.specs.Prelude.{◌≡◌}

-- for all arguments, two answers that the promise allows are one
abbrev pub OneAnswer : {K : Type 0} {A R E : K → Type 0} → ((κs : K) → A κs → R κs → E κs → Type 0) → Type 0
OneAnswer {K} {A} {R} {E} promise = (κs : K) (a : A κs) (y z : R κs) (e f : E κs) → promise κs a y e → promise κs a z f → y ≡ z

-- and so is what it leaves behind a `&mut`, which `lent` reads
abbrev pub OneLent : {K : Type 0} {A R E : K → Type 0} {X : Type 0} → ((κs : K) → A κs → R κs → E κs → Type 0) → ((κs : K) → E κs → X) → Type 0
OneLent {K} {A} {R} {E} promise lent =
    (κs : K) (a : A κs) (y z : R κs) (e f : E κs) → promise κs a y e → promise κs a z f → lent κs e ≡ lent κs f

-- and so is what a reference that it returns points to, which `seen` reads
abbrev pub OneSeen : {K : Type 0} {A R E : K → Type 0} {X : Type 0} → ((κs : K) → A κs → R κs → E κs → Type 0) → ((κs : K) → R κs → X) → Type 0
OneSeen {K} {A} {R} {E} promise seen =
    (κs : K) (a : A κs) (y z : R κs) (e f : E κs) → promise κs a y e → promise κs a z f → seen κs y ≡ seen κs z
