-- Rules 25 and 26, line by line: the lines before line k pass, and the first fault is that of the lines from k on.
use Prim.Native.Nat.{ℕ, ◌≤◌, ◌<◌, ◌+◌}
use Rattle.std.specs.Prelude.{Result, Ok, Err}
use mathlib.Core.List.{List}
use mathlib.Core.Path.{◌≡◌, refl, sym, ◌∙◌, ap}
use native.Mathlib.Omega.{arith}
use lib.ListN.{length, drop, get_or}
use Rattle.basics.specs.declared.Refusal.{Refusal}
use Rattle.basics.specs.Rows.{Row}
use Rattle.basics.specs.Refusals.{first_refusal, passed, outcome}
use Rattle.basics.specs.Laws.Outcomes.{err_some, ok_none}
use Rattle.basics.specs.Laws.Refusals.{refused_front}
use Rattle.lines.specs.declared.Line.{Line}
use Rattle.rules.specs.Rules.{rows_of, line_rows}
use Rattle.rules.specs.Laws.Refusals.{rows_refuse, passed_front}
use Rattle.rules.proofs.Lists.{no_line, next_line_lem, last_line}

pub record Checked (words : ℕ) (lines : List Line) (k : ℕ) : Type 0 where
  pub up : k ≤ length lines
  pub same : first_refusal (line_rows words lines) ≡ first_refusal (line_rows words (drop k lines))

pub checked_none : (words : ℕ) (lines : List Line) → Checked words lines 0
checked_none words lines = record { up = omega arith; same = refl }

module _ (words : ℕ) (lines : List Line) (k : ℕ) (c : Checked words lines k) where
  pub checked_all : length lines ≤ k → Ok tt ≡ passed (first_refusal (line_rows words lines))
  checked_all h = sym (rw (c.same, last_line lines k h))

  module _ (h : k < length lines) where
    abbrev rows : List (Row Refusal)
    rows = rows_of words (get_or lines k no_line)

    module _ (x : Result (Unit {0}) Refusal) (e : x ≡ passed (first_refusal rows)) where
      -- a fault that the code has found is the first
      pub checked_hit : (r : Refusal) → x ≡ Err r → Err r ≡ passed (first_refusal (line_rows words lines))
      checked_hit r q =
          let fault : outcome (first_refusal rows) tt ≡ Err r = sym e ∙ q in
          let some : (first_refusal rows).number ≡ 0 → ⊥ = err_some (first_refusal rows) tt r fault in
          let whole : first_refusal (line_rows words lines) ≡ first_refusal rows =
          c.same ∙ rw (next_line_lem lines k h) (refused_front rows (line_rows words (drop (k + 1) lines)) some) in
          sym fault ∙ ap passed (sym whole)

      pub checked_more : (u : Unit {0}) → x ≡ Ok u → Checked words lines (k + 1)
      checked_more u q =
          record {
            up = omega arith;
            same =
                rw (c.same, next_line_lem lines k h)
                (passed_front rows (line_rows words (drop (k + 1) lines)) (rows_refuse words (get_or lines k no_line))
                (ok_none (first_refusal rows) tt u (sym e ∙ q)));
          }
