-- An equation has one answer.
use Rattle.std.specs.Prelude.{◌≡◌}
use Rattle.std.proofs.Common.{◌∙◌, sym}

pub same : {A : Type 0} {x y z : A} → y ≡ x → z ≡ x → y ≡ z
same p q = p ∙ sym q
