-- Cases of what may be missing.
use Rattle.std.specs.Prelude.{ℕ, ◌≡◌, refl, false}
use Rattle.std.proofs.Math.Option.{Option, none, some}
use Rattle.std.proofs.Common.{arith}
use Rattle.basics.specs.Options.{is_some}
use Rattle.basics.specs.Laws.Tests.{true_is_not_false}

pub none_of : {A : Type 0} (o : Option A) → is_some o ≡ false → o ≡ none
none_of none e = refl
none_of (some x) e = true_is_not_false refl e

pub some_is_not_none : {A B : Type 0} {o : Option A} {x : A} → o ≡ some x → o ≡ none → B
some_is_not_none e f = let z : ◌≡◌ {A = ℕ} 0 1 = cc in absurd (omega arith)
