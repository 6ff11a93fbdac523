-- Rule 27, line by line: the owners are those of the lines before line k, none of which share, and the first that shares is among the
-- lines from k on.
use Prim.Native.Nat.{ℕ, ◌≤◌, ◌<◌, ◌+◌}
use Rattle.std.specs.Prelude.{Ok, Err}
use mathlib.Core.List.{List, []}
use mathlib.Core.Bool.{true, false, not}
use mathlib.Core.Path.{◌≡◌, refl, sym, ◌∙◌, ap}
use native.Mathlib.Omega.{arith}
use lib.Dec.{eqb}
use lib.ListN.{take, length, drop, get_or}
use borrow.Author.Tests.{ne_eqb, eq-eqb}
use Rattle.basics.specs.declared.Refusal.{Refusal}
use Rattle.basics.specs.Refusals.{refuse, no_refusal, first_refusal}
use Rattle.lines.specs.declared.Line.{Line}
use Rattle.lines.specs.declared.Entry.{Entry}
use Rattle.lines.specs.Typed.{All}
use Rattle.owners.specs.declared.Owners.{Owners}
use Rattle.owners.specs.Owners.{owners_of, claimed_both, least_owner, least_has}
use Rattle.owners.specs.Laws.Owners.{owners_more, Apart, none, apart_more}
use Rattle.rules.specs.Rules.{share_rows, shares, shares_earlier, first_rival}
use Rattle.rules.specs.Code.Shapes.{Fine}
use Rattle.rules.specs.Code.Clashes.{Allowed, clash_of}
use Rattle.rules.specs.Laws.Shares.{met_least, shared_numbered, none_common}
use Rattle.rules.proofs.Lists.{no_line, next_line_lem, last_line, all_lines, passed_line, all_line, all_passed, each_passed}

pub record Clashing (lines : List Line) (owners : Owners) (k : ℕ) : Type 0 where
  pub up : k ≤ length lines
  pub owned : owners ≡ owners_of (take k lines)
  pub apart : Apart (take k lines)
  pub rows : first_refusal (share_rows [] lines) ≡ first_refusal (share_rows (take k lines) (drop k lines))
  pub rival : first_rival [] lines ≡ first_rival (take k lines) (drop k lines)

pub clashing_none : (lines : List Line) (owners : Owners) → owners ≡ owners_of [] → Clashing lines owners 0
clashing_none lines owners e = record { up = omega arith; owned = e; apart = none; rows = refl; rival = refl }

module _ (lines : List Line) (pre : Allowed lines) (owners : Owners) (k : ℕ) (c : Clashing lines owners k) where
  pub clashing_all : length lines ≤ k → Ok owners ≡ clash_of lines
  clashing_all h =
      let r : first_refusal (share_rows [] lines) ≡ no_refusal = rw (c.rows, last_line lines k h) in
      let o : owners ≡ owners_of lines = c.owned ∙ ap owners_of (all_lines lines k c.up h) in
      ap (λ (x : Owners). Ok x) o ∙ sym (rw r)

  module _ (h : k < length lines) (o : ℕ) (eo : o ≡ least_owner owners (get_or lines k no_line).entry) where
    abbrev entry : Entry
    entry = (get_or lines k no_line).entry

    fine : All Fine (take k lines)
    fine = all_passed k pre.fine

    this : Fine entry
    this = all_line lines k h pre.fine

    least : o ≡ least_has (λ m. shares m entry) (take k lines)
    least = eo ∙ rw c.owned (met_least (take k lines) entry fine this c.apart)

    meets : shares_earlier (take k lines) entry ≡ not (eqb o 0)
    meets = rw least (shared_numbered (take k lines) entry (each_passed k pre.numbered))

    pub clash_hit : (o ≡ 0 → ⊥) → (r : Refusal) → r ≡ refuse 27 (get_or lines k no_line).source → Err (record { refusal = r; with = o }) ≡ clash_of lines
    clash_hit e r er =
        let s : shares_earlier (take k lines) entry ≡ true = meets ∙ rw (ne_eqb o 0 e) in
        let q : first_refusal (share_rows [] lines) ≡ refuse 27 (get_or lines k no_line).source = rw (c.rows, next_line_lem lines k h, s) in
        let v : first_rival [] lines ≡ least_has (λ m. shares m entry) (take k lines) = rw (c.rival, next_line_lem lines k h, s) in
        rw (er, least, ← v) (sym (rw q))

    pub clashing_more : o ≡ 0 → (next : Owners) → next ≡ claimed_both owners (get_or lines k no_line) → Clashing lines next (k + 1)
    clashing_more e next en =
        let s : shares_earlier (take k lines) entry ≡ false = meets ∙ rw (eq-eqb o 0 e) in
        record {
          up = omega arith;
          owned = en ∙ rw (c.owned, passed_line lines k h) (owners_more (take k lines) (get_or lines k no_line));
          apart = rw (passed_line lines k h) (apart_more (get_or lines k no_line) c.apart (none_common (take k lines) entry fine this s));
          rows = c.rows ∙ rw (next_line_lem lines k h, s, passed_line lines k h);
          rival = c.rival ∙ rw (next_line_lem lines k h, s, passed_line lines k h);
        }
