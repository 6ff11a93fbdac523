-- One law for each return of the functions on one block, its premises as the code's tests and calls give them.
use Prim.Native.Nat.{ℕ, ◌<◌, ◌≤◌, ◌+◌, ◌^◌}
use mathlib.Core.List.{List}
use mathlib.Core.Path.{◌≡◌, refl, ap, sym, ◌∙◌}
use mathlib.Core.Bool.{Bool, true, false}
use native.Mathlib.Omega.{arith}
use native.Mathlib.Nat.{zero-add}
use lib.ListN.{length, length-drop}
use mir.Val.{Fits}
use mir.Syntax.{w64}
use borrow.Author.Tests.{ne_eqb, eq-eqb}
use Rattle.basics.specs.Laws.Octets.{Bytes, bytes_drop}
use Rattle.sums.specs.Crc.{c324_poly, crc324_of}
use Rattle.sums.specs.Tables.{tables_of, by_tables}
use Rattle.sums.specs.Laws.Tables.{c324_by}
use Rattle.hunk.specs.Hunk.{check_hunk}
use Rattle.hunk.specs.Laws.Refusals.{whole_words, break_within}
use Rattle.std.specs.Prelude.{Result, Ok, Err}
use Rattle.basics.specs.declared.Refusal.{Refusal}
use Rattle.blocks.specs.Blocks.{type_of, size_said, payload_in, is_hunk}
use Rattle.blocks.specs.Judged.{is_encrypted, wrong_sum, wrong_metadata, wrong_tables, judge_rows, verdict, judged_of}
use Rattle.blocks.specs.Code.Steps.{sum_by, metadata_by, tables_by, checked_of}

-- a payload that is lent: a hunk breaks within its block, and its checksum is by tables
module _ (x y : List ℕ) (ey : y ≡ payload_in x) where
  pub break_fits : (m : ℕ) (h : Result ℕ ℕ) → h ≡ check_hunk y m → (k : ℕ) → h ≡ Err k → length x < 2 ^ 64 → Fits w64 (8 + k)
  break_fits m h eh k e l =
      let c : check_hunk (payload_in x) m ≡ Err k = rw (← ey) (sym eh ∙ e) in
      let i : k ≤ length (payload_in x) = rw c at (break_within (payload_in x) m) in
      omega (arith, i, length-drop 8 x)

  pub sum_by_own : (t : List ℕ) (r : ℕ) → r ≡ by_tables t 0 y → t ≡ tables_of c324_poly → Bytes x → r ≡ crc324_of (payload_in x)
  sum_by_own t r er et h = er ∙ ap (by_tables t 0) ey ∙ c324_by t (payload_in x) et (bytes_drop 8 x h)

-- one block that no row before 9 refuses, by its hunk's check
module _ (x : List ℕ) (sum m : ℕ) (earlier : Bool) (e₇ : is_encrypted x ≡ false) (e₆ : wrong_sum sum x ≡ false) (e₁₂ : wrong_metadata sum x ≡ false)
    (e₈ : wrong_tables earlier x ≡ false) (h : is_hunk x ≡ true) where
  by_check : (k : Result ℕ ℕ) → check_hunk (payload_in x) m ≡ k → checked_of k ≡ verdict (judged_of m earlier 0 sum x)
  unfolding judge_rows judged_of
  by_check (Ok n) ek = rw (ek, e₇, e₆, e₁₂, e₈, h, ← (whole_words (payload_in x) m n ek).count)
  by_check (Err n) ek = rw (ek, e₇, e₆, e₁₂, e₈, h, zero-add)

module _ (x : List ℕ) (t : ℕ) (et : t ≡ type_of x) (sum m : ℕ) (earlier : Bool) (nz : t ≡ 0 → ⊥) (b : Bool) (eb : b ≡ sum_by t sum x) (good : b ≡ false)
    (w : Bool) (ew : w ≡ metadata_by t sum x) (fine : w ≡ false) (n : ℕ) (en : n ≡ size_said x) (c : Bool) (ec : c ≡ tables_by t n earlier) (once : c ≡ false) where
  pub judge_9 : t ≡ 2 → (r : Result ℕ Refusal) → r ≡ checked_of (check_hunk (payload_in x) m) → r ≡ verdict (judged_of m earlier 0 sum x)
  unfolding sum_by metadata_by tables_by
  judge_9 d r e =
      let e₇ : is_encrypted x ≡ false = ne_eqb _ _ (λ z. nz (et ∙ z)) in
      let e₆ : wrong_sum sum x ≡ false = rw et at (sym eb ∙ good) in
      let e₁₂ : wrong_metadata sum x ≡ false = rw et at (sym ew ∙ fine) in
      let e₈ : wrong_tables earlier x ≡ false = rw (et, en) at (sym ec ∙ once) in
      e ∙ by_check x sum m earlier e₇ e₆ e₁₂ e₈ (eq-eqb _ _ (sym et ∙ d)) (check_hunk (payload_in x) m) refl
