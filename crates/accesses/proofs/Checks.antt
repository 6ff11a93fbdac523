-- The checking pass: what is left of the list goes on from what was counted.
use Prim.Native.Nat.{ℕ, suc, ◌+◌, ◌-◌, ◌<◌, ◌≤◌}
use mathlib.Core.List.{List}
use mathlib.Core.Option.{Option, none, some}
use mathlib.Core.Path.{◌≡◌, refl, sym, ap, ◌∙◌}
use mathlib.Core.Bool.{Bool, true, false, cond}
use native.Mathlib.Omega.{arith}
use lib.ListN.{length, drop}
use borrow.Author.Tests.{lt-ltb}
use Rattle.basics.specs.Lists.{part}
use Rattle.basics.specs.Options.{is_some}
use Rattle.text.specs.Lines.{lines_of, line_end, past_end, next_line}
use Rattle.text.specs.Laws.Lines.{line_at_lem, no_lines, next_within}
use Rattle.cart.specs.Run as Run
use Rattle.std.specs.Prelude.{Option as Maybe, Some, None, Ok, Err}
use Rattle.basics.specs.declared.Refusal.{Refusal}
use Rattle.basics.specs.Refusals.{refuse}
use Rattle.accesses.specs.declared.Access.{Access}
use Rattle.accesses.specs.declared.Access.TheVariants.{Read, Write, Reset}
use Rattle.accesses.specs.Line.{line_says}
use Rattle.accesses.specs.Accesses.{said, accesses_in, malformed_from, malformed_line, reads_in, reads_of}
use Rattle.accesses.specs.Laws.Accesses.{reads_append, malformed_here}
use Rattle.accesses.proofs.Lines.{next_end}
use Rattle.accesses.specs.Code.Steps.{coded, says, is_heard, checked_of}

-- a line, as the code answers it
none_said : (o : Option Run.Access) → says o ≡ None → o ≡ none
none_said none e = refl
none_said (some x) e = let q : Some (coded x) ≡ None = e in cc

some_said : (o : Option Run.Access) (s : Access) → says o ≡ Some s → is_some o ≡ true
some_said none s e = let q : None ≡ Some s = e in cc
some_said (some x) s e = refl

reads_of_lem : (o : Option Run.Access) (s : Access) → says o ≡ Some s → cond (is_heard s) 1 0 ≡ reads_in (said o)
unfolding reads_in
reads_of_lem none s e = let q : None ≡ Some s = e in cc
reads_of_lem (some (Run.Read a)) s e = let q : Read a ≡ s = cc in rw (← q)
reads_of_lem (some (Run.Write a v)) s e = let q : Write a v ≡ s = cc in rw (← q)
reads_of_lem (some Run.Reset) s e = let q : Reset ≡ s = cc in rw (← q)

at_most : (n : ℕ) (b : Bool) → n ≡ cond b 1 0 → n ≤ 1
at_most n true e = omega arith
at_most n false e = omega arith

pub record Checking (list : List ℕ) (at lines reads : ℕ) : Type 0 where
  pub malformed : malformed_line list ≡ malformed_from (suc lines) (lines_of (drop at list))
  pub counted : length (lines_of list) ≡ lines + length (lines_of (drop at list))
  pub tallied : reads_of list ≡ reads + reads_in (accesses_in (lines_of (drop at list)))
  pub few : lines ≤ at
  pub fewer : reads ≤ lines

pub checking_none : (list : List ℕ) → Checking list 0 0 0
checking_none list = record { malformed = refl; counted = omega arith; tallied = omega arith; few = omega arith; fewer = omega arith }

module _ (list : List ℕ) (at lines reads : ℕ) (h : Checking list at lines reads) where
  pub checked_all : length list ≤ at → Ok (lines, reads) ≡ checked_of list
  unfolding checked_of malformed_from accesses_in reads_in
  checked_all l =
      let e = no_lines list at l in
      let m : malformed_line list ≡ 0 = h.malformed ∙ rw e in
      let n : length (lines_of list) ≡ lines = h.counted ∙ rw e (omega arith) in
      let r : reads_of list ≡ reads = h.tallied ∙ rw e (omega arith) in
      rw (m, n, r)

  module _ (o : Maybe Access) (l : at < length list) (e : o ≡ says (line_says (part list at (line_end list at)))) where
    pub checked_wrong : o ≡ None → (q : Refusal) → q ≡ refuse 33 (lines + 1) → Err q ≡ checked_of list
    unfolding checked_of
    checked_wrong t q eq =
        let o : line_says (part list at (line_end list at)) ≡ none = none_said _ (sym e ∙ t) in
        let m : malformed_line list ≡ suc lines =
        h.malformed ∙ ap (malformed_from (suc lines)) (line_at_lem list at l) ∙ malformed_here (suc lines) _ _ o in
        let z : lines + 1 ≡ malformed_line list = omega arith in
        rw (lt-ltb 0 (malformed_line list) (omega arith), eq) (ap (λ (k : ℕ). Err (refuse 33 k)) z)

    pub checking_more : (s : Access) (b : Bool) (n end next : ℕ) → o ≡ Some s → b ≡ is_heard s → n ≡ cond b 1 0 → end ≡ line_end list at → next ≡ past_end list end
        → Checking list next (lines + 1) (reads + n)
    unfolding malformed_from accesses_in
    checking_more s b n end next t v g i p =
        let q = next_end list at end next i p in
        let line : List ℕ = part list at (line_end list at) in
        let rest : List (List ℕ) = lines_of (drop (next_line list at) list) in
        let o : is_some (line_says line) ≡ true = some_said (line_says line) s (sym e ∙ t) in
        let here = line_at_lem list at l in
        let r : n ≡ reads_in (said (line_says line)) = g ∙ ap (λ (b : Bool). cond b 1 0) v ∙ reads_of_lem (line_says line) s (sym e ∙ t) in
        let w = next_within list at l in
        let one : suc lines + 1 ≡ suc (lines + 1) = omega arith in
        rw q
        (record {
          malformed = h.malformed ∙ ap (malformed_from (suc lines)) here ∙ rw (o, one);
          counted = h.counted ∙ rw here (omega arith);
          tallied = h.tallied ∙ rw (here, reads_append) (omega (arith, r));
          few = omega (arith, h.few, w);
          fewer = omega (arith, h.fewer, at_most n b g);
        })

pub further : (s : List ℕ) (at end next : ℕ) → at < length s → end ≡ line_end s at → next ≡ past_end s end → length s - next < length s - at
further s at end next l i p = let e = next_end s at end next i p in let w = next_within s at l in omega arith
