-- The program's salvage: refused exactly when a row says so; its buffer of a byte more than the card takes, and its array of a place for each
-- eight bytes, are never too short.
use Rattle.std.specs.Prelude.{ℕ, ◌+◌, ◌*◌, ◌≤◌, ◌≡◌, List, ◌↔◌, length, ltb}
use Rattle.std.proofs.Common.{arith}
use Rattle.basics.specs.declared.Refusal.{Refusal}
use Rattle.basics.specs.Rows.{Gives}
use Rattle.basics.specs.Refusals.{first_refusal}
use Rattle.basics.specs.Laws.Tests.{cases}
use Rattle.basics.specs.Laws.Refusals.{Refusing, refused_exactly as exactly-refused}
use Rattle.places.specs.Limits.{card_limit}
use Rattle.header.specs.Header.{header_size}
use Rattle.recovery.specs.Salvage.{drops_in, salvage_of, refusal_of}
use Rattle.recovery.specs.Card.{card_rows, answer_of}
use Rattle.recovery.specs.Laws.Salvage.{salvage_short, drops_room}
use Rattle.recovery.specs.Laws.Refusals.{rows_refusing, answer_refusal}

module _ (out s : List ℕ) where
  card_refusing : Refusing (card_rows out s)
  card_refusing = ((λ z. omega arith), rows_refusing out s)

  answer_first : (answer_of out s).refusal ≡ first_refusal (card_rows out s)
  unfolding answer_of refusal_of
  answer_first = cases (ltb card_limit (length s)) (λ e. rw e) (λ e. rw e (answer_refusal out s))

  pub card_refused : (r : Refusal) → (r.number ≡ 0 → ⊥) → ((answer_of out s).refusal ≡ r) ↔ Gives (card_rows out s) r
  card_refused r n = rw answer_first (exactly-refused (card_rows out s) card_refusing r n)

module _ (s : List ℕ) (h : length s ≤ card_limit) where
  pub card_room : header_size ≤ length s → length (salvage_of s) ≤ card_limit + 1
  card_room k = omega (arith, salvage_short s k)

  pub card_places : 8 * length (drops_in s) ≤ card_limit
  card_places = omega (arith, drops_room s)
