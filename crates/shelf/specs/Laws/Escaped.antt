-- What a label shows of a text: no byte that a screen would act on, and at most four bytes for each.
use Rattle.std.specs.Prelude.{ℕ, ◌*◌, ◌/◌, ◌%◌, ◌≤◌, ◌<◌, List, [], ◌∷◌, length, eqb, ltb}
use Rattle.std.proofs.Common.{arith, length-append, ltb-true, ltb-false}
use Rattle.basics.specs.Lists.{joined, Each, none, also}
use Rattle.basics.specs.Laws.Each.{each_append}
use Rattle.basics.specs.Laws.Tests.{cases, or_false_left, or_false_right}
use Rattle.text.specs.Spelling.{upper_digit}
use Rattle.shelf.specs.Escaped.{unseen, escaped_byte, escaped}

-- a byte that a screen shows, and takes for nothing else
pub record Seen (b : ℕ) : Type 0 where
  pub from : 0x20 ≤ b
  pub to : b ≤ 0x7E

digit_seen : (d : ℕ) → d < 16 → Seen (upper_digit d)
unfolding upper_digit
digit_seen d h =
    cases (ltb d 10)
    (λ e. let l : d < 10 = ltb-true _ _ e in rw e (record { from = omega arith; to = omega arith }))
    (λ e. rw e (record { from = omega arith; to = omega arith }))

fixed : (b : ℕ) → 0x20 ≤ b → b ≤ 0x7E → Seen b
fixed b f t = record { from = f; to = t }

byte_seen : (b : ℕ) → Each Seen (escaped_byte b)
unfolding escaped_byte
byte_seen b =
    cases (eqb b 92)
    (λ e. rw e (also (fixed 92 (omega arith) (omega arith)) (also (fixed 92 (omega arith) (omega arith)) none)))
    (λ e.
    rw e
    (cases (unseen b)
    (λ u.
    rw u
    (also (fixed 92 (omega arith) (omega arith))
    (also (fixed 120 (omega arith) (omega arith))
    (also (digit_seen (b / 16 % 16) (omega arith)) (also (digit_seen (b % 16) (omega arith)) none)))))
    (λ u.
    let f : 0x20 ≤ b = ltb-false _ _ (or_false_left (ltb b 0x20) (ltb 0x7E b) u) in
    let t : b ≤ 0x7E = ltb-false _ _ (or_false_right (ltb b 0x20) (ltb 0x7E b) u) in
    rw u (also (fixed b f t) none))))

-- no control byte reaches a screen
pub all_seen : (text : List ℕ) → Each Seen (escaped text)
unfolding joined
all_seen [] = none
all_seen (b ∷ text) = each_append (escaped_byte b) (escaped text) (byte_seen b) (all_seen text)

-- at most four bytes for each
pub byte_fits : (b : ℕ) → length (escaped_byte b) ≤ 4
unfolding escaped_byte
byte_fits b = cases (eqb b 92) (λ e. rw e (omega arith)) (λ e. rw e (cases (unseen b) (λ u. rw u (omega arith)) (λ u. rw u (omega arith))))

pub fits : (text : List ℕ) → length (escaped text) ≤ 4 * length text
unfolding joined
fits [] = omega arith
fits (b ∷ text) = omega (arith, length-append (escaped_byte b) (escaped text), byte_fits b, fits text)
