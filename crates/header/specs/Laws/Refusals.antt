-- When a header is refused: with n at p exactly when that row holds and none before it in 01's order does.
use Rattle.std.specs.Prelude.{ℕ, ◌≤◌, List, ◌≡◌, Bool, false, ◌↔◌, length, ltb}
use Rattle.std.proofs.Common.{arith, ltb-false}
use Rattle.basics.specs.Rows.{Gives, Silent, also}
use Rattle.basics.specs.Refusals.{refuse}
use Rattle.basics.specs.Laws.Refusals.{Refusing, refused_exactly, accepted_exactly}
use Rattle.basics.specs.Laws.Tests.{or_false_left, or_false_right}
use Rattle.places.specs.Limits.{image_limit}
use Rattle.header.specs.Header.{header_size, header_rows, header_refusal, wrong_length}

module _ (s : List ℕ) where
  -- each row refuses
  pub header_refusing : Refusing (header_rows s)
  unfolding header_rows
  header_refusing = ((λ e. omega arith), ((λ e. omega arith), ((λ e. omega arith), ((λ e. omega arith), tt))))

  pub header_refused : (n p : ℕ) → (n ≡ 0 → ⊥) → (header_refusal s ≡ refuse n p) ↔ Gives (header_rows s) (refuse n p)
  header_refused n p h = refused_exactly (header_rows s) header_refusing (refuse n p) h

  -- and accepted exactly when no row holds
  pub header_accepted : ((header_refusal s).number ≡ 0) ↔ Silent (header_rows s)
  header_accepted = accepted_exactly (header_rows s) header_refusing

  -- an accepted header lies in its image, and the image is not too long
  first_silent : Silent (header_rows s) → wrong_length s ≡ false
  unfolding header_rows
  first_silent (also e q) = e

  pub accepted_length : (header_refusal s).number ≡ 0 → (header_size ≤ length s) × (length s ≤ image_limit)
  accepted_length e =
      let w : wrong_length s ≡ false = first_silent (header_accepted.0 e) in
      let short : Bool = ltb (length s) header_size in
      let long : Bool = ltb image_limit (length s) in
      (ltb-false (length s) header_size (or_false_left short long w), ltb-false image_limit (length s) (or_false_right short long w))
