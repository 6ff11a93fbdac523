-- The three parts of the table of rules, one after the other; and what each says of the line that 27 collides with.
use Prim.Native.Nat.{ℕ}
use Rattle.std.specs.Prelude.{Result, Ok, Err, Some, None}
use Rattle.std.specs.Result.{result_ok}
use mathlib.Core.List.{List, [], ◌∷◌, ◌++◌}
use mathlib.Core.Bool.{Bool, cond, true, false}
use mathlib.Core.Path.{◌≡◌, refl, sym, ◌∙◌, ap}
use mathlib.Core.Logic.{◌⊎◌, ⊎_elim, inl, inr}
use native.Mathlib.Omega.{arith}
use lib.Dec.{eqb}
use borrow.Author.Tests.{ne_eqb, eqb-true, eqb-false}
use Rattle.basics.specs.declared.Refusal.{Refusal}
use Rattle.basics.specs.Rows.{Row}
use Rattle.basics.specs.Refusals.{refuse, no_refusal, first_refusal, passed}
use Rattle.basics.specs.Laws.Outcomes.{err_some, ok_none, outcome_err}
use Rattle.basics.specs.Laws.Tests.{cases}
use Rattle.basics.specs.Tables.{table}
use Rattle.basics.specs.Laws.Refusals.{refused_front}
use Rattle.basics.specs.Laws.Tables.{table_same}
use Rattle.places.specs.Limits.{chapters, paragraphs, flip_entries}
use Rattle.lines.specs.declared.Line.{Line}
use Rattle.owners.specs.declared.Owners.{Owners}
use Rattle.owners.specs.Owners.{page_owner, owners_of, least_has}
use Rattle.rules.specs.declared.Clash.{Clash}
use Rattle.rules.specs.Chapters.{kind_at}
use Rattle.rules.specs.Rules.{out_of_range, not_allowed, line_rows, share_rows, shares, shares_earlier, chapter_rows, breaks_plain, refusal_of, first_rival, collides_with, numbered}
use Rattle.rules.specs.Code.Clashes.{Allowed, clash_of}
use Rattle.rules.specs.Code.Chapters.{breaks_in}
use Rattle.rules.specs.Laws.Refusals.{line_rows_lem, share_rows_lem, passed_front}
use Rattle.rules.specs.Laws.Rules.{allowed_lines}
use Rattle.rules.specs.Laws.Chapters.{breaks_in_lem}

number_of : {r s : Refusal} → r ≡ s → r.number ≡ s.number
number_of e = ap (λ (x : Refusal). x.number) e

-- the numbers that each part gives
either_number : (b : Bool) (n p m : ℕ) (r : Refusal) → eqb n m ≡ false → eqb r.number m ≡ false → eqb (cond b (refuse n p) r).number m ≡ false
either_number true n p m r e f = e
either_number false n p m r e f = f

lines_not_27 : (words : ℕ) (ls : List Line) → eqb (first_refusal (line_rows words ls)).number 27 ≡ false
lines_not_27 words [] = refl
lines_not_27 words (l ∷ ls) =
    either_number (out_of_range words l.entry) 25 l.source 27 _ refl
    (either_number (not_allowed l) 26 l.source 27 _ refl (lines_not_27 words ls))

-- 27 refuses, or nothing shares and there is no rival
shared_by : (earlier ls : List Line) → ((first_refusal (share_rows earlier ls)).number ≡ 27) ⊎ (((first_refusal (share_rows earlier ls)).number ≡ 0) × (first_rival earlier ls ≡ 0))
shared_by earlier [] = inr (refl, refl)
shared_by earlier (l ∷ ls) = go (shares_earlier earlier l.entry) (shared_by (earlier ++ (l ∷ [])) ls)
  where
    go : (b : Bool) → ((first_refusal (share_rows (earlier ++ (l ∷ [])) ls)).number ≡ 27) ⊎ (((first_refusal (share_rows (earlier ++ (l ∷ [])) ls)).number ≡ 0) × (first_rival (earlier ++ (l ∷ [])) ls ≡ 0))
        → ((cond b (refuse 27 l.source) (first_refusal (share_rows (earlier ++ (l ∷ [])) ls))).number ≡ 27)
        ⊎ (((cond b (refuse 27 l.source) (first_refusal (share_rows (earlier ++ (l ∷ [])) ls))).number ≡ 0)
        × (cond b (least_has (λ m. shares m l.entry) earlier) (first_rival (earlier ++ (l ∷ [])) ls) ≡ 0))
    go true h = inl refl
    go false h = h

cond_same : (b : Bool) (n : ℕ) → n ≡ 0 → cond b n 0 ≡ 0
cond_same true n e = e
cond_same false n e = refl

-- what `ok` has told
pub told_some : (x : Result (Unit {0}) Refusal) (u : Unit {0}) → result_ok x ≡ Some u → x ≡ Ok u
told_some (Ok a) u e = refl
told_some (Err r) u e = cc

pub told_none : (x : Result (Unit {0}) Refusal) → result_ok x ≡ None → (r : Refusal) × (x ≡ Err r)
told_none (Ok a) e = cc
told_none (Err r) e = (r, refl)

-- what a clash says, and that there is none
clash_err : (ls : List Line) (k : Clash) → clash_of ls ≡ Err k
    → ((first_refusal (share_rows [] ls)).number ≡ 0 → ⊥) × (k.refusal ≡ first_refusal (share_rows [] ls)) × (k.with ≡ first_rival [] ls)
clash_err ls k e =
    cases (eqb (first_refusal (share_rows [] ls)).number 0)
    (λ t. let h : ◌≡◌ {A = Result Owners Clash} (Ok (owners_of ls)) (Err k) = rw t at e in cc)
    (λ t.
    let h : ◌≡◌ {A = Result Owners Clash} (Err (record { refusal = first_refusal (share_rows [] ls); with = first_rival [] ls })) (Err k) = rw t at e in
    let q : ◌≡◌ {A = Clash} (record { refusal = first_refusal (share_rows [] ls); with = first_rival [] ls }) k = cc in
    (eqb-false _ 0 t, sym (ap (λ (x : Clash). x.refusal) q), sym (ap (λ (x : Clash). x.with) q)))

clash_ok : (ls : List Line) (o : Owners) → clash_of ls ≡ Ok o → ((first_refusal (share_rows [] ls)).number ≡ 0) × (o ≡ owners_of ls)
clash_ok ls o e =
    cases (eqb (first_refusal (share_rows [] ls)).number 0)
    (λ t.
    let h : ◌≡◌ {A = Result Owners Clash} (Ok (owners_of ls)) (Ok o) = rw t at e in
    let q : owners_of ls ≡ o = cc in
    (eqb-true _ 0 t, sym q))
    (λ t.
    let h : ◌≡◌ {A = Result Owners Clash} (Err (record { refusal = first_refusal (share_rows [] ls); with = first_rival [] ls })) (Ok o) = rw t at e in
    cc)

module _ (words : ℕ) (ls : List Line) where
  abbrev lines : Refusal
  lines = first_refusal (line_rows words ls)

  abbrev shared : Refusal
  shared = first_refusal (share_rows [] ls)

  -- 25 and 26
  by_lines : (lines.number ≡ 0 → ⊥) → refusal_of words ls ≡ lines
  unfolding refusal_of
  by_lines h = refused_front (line_rows words ls) (share_rows [] ls ++ chapter_rows ls) h

  behind_lines : lines.number ≡ 0 → refusal_of words ls ≡ first_refusal (share_rows [] ls ++ chapter_rows ls)
  unfolding refusal_of
  behind_lines p = passed_front (line_rows words ls) (share_rows [] ls ++ chapter_rows ls) (line_rows_lem words ls) p

  module _ (x : Result (Unit {0}) Refusal) (e : x ≡ passed lines) where
    module _ (r : Refusal) (f : x ≡ Err r) where
      fault : passed lines ≡ Err r
      fault = sym e ∙ f

      pub judged_lines : Err r ≡ passed (refusal_of words ls)
      judged_lines = sym fault ∙ ap passed (sym (by_lines (err_some lines tt r fault)))

      pub rival_none : None ≡ numbered (collides_with words ls)
      unfolding collides_with
      rival_none = rw (by_lines (err_some lines tt r fault), lines_not_27 words ls)

    module _ (u : Unit {0}) (f : x ≡ Ok u) where
      none : lines.number ≡ 0
      none = ok_none lines tt u (sym e ∙ f)

      pub lines_allowed : Allowed ls
      lines_allowed = allowed_lines words ls none

      module _ (z : Result Owners Clash) (c : z ≡ clash_of ls) where
        -- 27
        module _ (k : Clash) (h : z ≡ Err k) where
          found : (shared.number ≡ 0 → ⊥) × (k.refusal ≡ shared) × (k.with ≡ first_rival [] ls)
          found = clash_err ls k (sym c ∙ h)

          by_shares : refusal_of words ls ≡ shared
          by_shares = behind_lines none ∙ refused_front (share_rows [] ls) (chapter_rows ls) found.0

          pub judged_shares : Err k.refusal ≡ passed (refusal_of words ls)
          judged_shares =
              let n : refusal_of words ls ≡ k.refusal = by_shares ∙ sym found.1 in
              ap (λ (t : Refusal). Err t) (sym n) ∙ sym (outcome_err (refusal_of words ls) tt (λ v. found.0 (sym (number_of by_shares) ∙ v)))

          pub rival_found : (k.with ≡ 0 → ⊥) → Some k.with ≡ numbered (collides_with words ls)
          unfolding collides_with
          rival_found n =
              ⊎_elim
              (λ v.
              let m : (refusal_of words ls).number ≡ 27 = number_of by_shares ∙ v in
              rw (m, ← found.2) (sym (rw (ne_eqb k.with 0 n) refl)))
              (λ v. absurd (found.0 v.0)) (shared_by [] ls)

        module _ (o : Owners) (h : z ≡ Ok o) where
          owned : (shared.number ≡ 0) × (o ≡ owners_of ls)
          owned = clash_ok ls o (sym c ∙ h)

          pub rival_nobody : None ≡ numbered (collides_with words ls)
          unfolding collides_with
          rival_nobody =
              let v : first_rival [] ls ≡ 0 = ⊎_elim (λ n. absurd (omega (arith, n, owned.0))) (λ n. n.1) (shared_by [] ls) in
              rw v (sym (ap numbered (cond_same (eqb (refusal_of words ls).number 27) 0 refl)))

          -- 28
          pub judged_chapters : (kinds : List ℕ) → kinds ≡ table paragraphs (kind_at ls) → (t : Result (Unit {0}) Refusal)
              → t ≡ passed (first_refusal (table chapters (λ x. (breaks_in o.pages kinds x, refuse 28 x)))) → t ≡ passed (refusal_of words ls)
          unfolding owners_of
          judged_chapters kinds ek t et =
              let p : o.pages ≡ table flip_entries (page_owner ls) = ap (λ (x : Owners). x.pages) owned.1 in
              let g : table {A = Row Refusal} chapters (λ x. (breaks_in o.pages kinds x, refuse 28 x)) ≡ chapter_rows ls =
              table_same {A = Row Refusal} (false, no_refusal) chapters (λ x. (breaks_in o.pages kinds x, refuse 28 x)) (λ x. (breaks_plain ls x, refuse 28 x))
              (λ x h. rw (breaks_in_lem ls lines_allowed o.pages kinds p ek x h)) in
              let n : refusal_of words ls ≡ first_refusal (chapter_rows ls) =
              behind_lines none ∙ passed_front (share_rows [] ls) (chapter_rows ls) (share_rows_lem [] ls) owned.0 in
              et ∙ ap passed (ap first_refusal g ∙ sym n)
