-- When a list is refused, with what, and at which line (02, W-214): one theorem of what `run` promises, whatever the limit.
use Rattle.std.specs.Prelude.{ℕ, zero, suc, ◌+◌, ◌<◌, ◌≡◌, ◌↔◌, Bool, true, false, cond, length, take, get_or}
use mathlib.Core.List.{List, [], ◌∷◌, map}
use Rattle.std.proofs.Math.Path.{refl, ap}
use Rattle.std.proofs.Common.{◌∙◌, sym, arith, ltb-true, ne_eqb}
use Rattle.std.proofs.Math.Option.{none}
use Rattle.basics.specs.declared.Refusal.{Refusal}
use Rattle.basics.specs.Lists.{put_front}
use Rattle.basics.specs.Options.{is_some}
use Rattle.basics.specs.Rows.{Gives, Silent}
use Rattle.basics.specs.Refusals.{refuse, no_refusal}
use Rattle.basics.specs.Laws.Options.{none_of}
use Rattle.basics.specs.Laws.Puts.{put_room}
use Rattle.basics.specs.Laws.Rows.{silent_first}
use Rattle.basics.specs.Laws.Refusals.{Refusing, refused_exactly, accepted_exactly}
use Rattle.basics.specs.Laws.Tests.{cases}
use Rattle.cart.specs.Run.{World, Access, answers}
use Rattle.text.specs.Lines.{lines_of}
use Rattle.accesses.specs.Line.{line_says}
use Rattle.accesses.specs.Accesses.{accesses_of, malformed_from, malformed_line, reads_of}
use Rattle.cart.specs.Reads.{heard}
use Rattle.accesses.specs.Runs.{has_malformed, too_few, refusal_rows, refusal_of, run_of, left, ran_of, answers_in}

-- this line is the first malformed one; lines are counted from n
pub record FirstMalformed (n : ℕ) (ls : List (List ℕ)) (line : ℕ) : Type 0 where
  pub at : ℕ
  pub within : at < length ls
  pub malformed : line_says (get_or ls at []) ≡ none
  pub first : (i : ℕ) → i < at → is_some (line_says (get_or ls i [])) ≡ true
  pub is : line ≡ n + at

-- nothing is run: the state comes back, with no answer and no line, and RAM, flash and buffer are as they were
pub record NothingRun (w : World) (list : List ℕ) (limit : ℕ) (out : List ℕ) : Type 0 where
  pub world : left w list limit (length out) ≡ w
  pub cartridge : (ran_of w list limit (length out)).cartridge ≡ w.cartridge
  pub lines : (ran_of w list limit (length out)).lines ≡ 0
  pub kept : answers_in w list limit out ≡ out

pub record Exactly (w : World) (list : List ℕ) (limit : ℕ) (out : List ℕ) : Type 0 where
  -- refused so exactly when that row holds and none before it does, and then nothing is run
  pub refuses : (r : Refusal) → (r.number ≡ 0 → ⊥) → ((ran_of w list limit (length out)).refusal ≡ r) ↔ Gives (refusal_rows list (length out)) r
  pub nothing : ((ran_of w list limit (length out)).refusal.number ≡ 0 → ⊥) → NothingRun w list limit out
  -- accepted exactly when no row holds, and then the lines up to the limit are run
  pub accepts : ((ran_of w list limit (length out)).refusal.number ≡ 0) ↔ Silent (refusal_rows list (length out))
  pub runs : Silent (refusal_rows list (length out)) → run_of list limit (length out) ≡ take limit (accesses_of list)
  -- 33 names the first malformed line; 29 is answered with how many answers there would be, and they are more than there is room for
  pub first : (n : ℕ) → (ran_of w list limit (length out)).refusal ≡ refuse 33 n → FirstMalformed 1 (lines_of list) n
  pub needed : (ran_of w list limit (length out)).refusal ≡ refuse 29 0 → ((ran_of w list limit (length out)).length ≡ reads_of list) × (length out < reads_of list)

before : (l : List ℕ) (ls : List (List ℕ)) (k : ℕ) → is_some (line_says l) ≡ true → ((i : ℕ) → i < k → is_some (line_says (get_or ls i [])) ≡ true)
    → (i : ℕ) → i < suc k → is_some (line_says (get_or (l ∷ ls) i [])) ≡ true
before l ls k e f zero h = e
before l ls k e f (suc i) h = f i (omega arith)

malformed_first : (n : ℕ) (ls : List (List ℕ)) → 0 < malformed_from n ls → FirstMalformed n ls (malformed_from n ls)
unfolding malformed_from
malformed_first n [] h = absurd (omega arith)
malformed_first n (l ∷ ls) h =
    cases (is_some (line_says l))
    (λ e.
    let r : FirstMalformed (n + 1) ls (malformed_from (n + 1) ls) = malformed_first (n + 1) ls (rw e at h) in
    rw e
    (record {
      at = suc r.at;
      within = omega (arith, r.within);
      malformed = r.malformed;
      first = before l ls r.at e r.first;
      is = omega (arith, r.is);
    }))
    (λ e. rw e (record { at = 0; within = omega arith; malformed = none_of (line_says l) e; first = λ i q. absurd (omega arith); is = omega arith }))

number_of : (r s : Refusal) → r ≡ s → r.number ≡ s.number
number_of r s e = ap (λ (x : Refusal). x.number) e

place_of : (r s : Refusal) → r ≡ s → r.place ≡ s.place
place_of r s e = ap (λ (x : Refusal). x.place) e

-- of the two rows, the one that a number belongs to
row_33 : (m n : ℕ) (a b : Bool) → cond a (refuse 33 m) (cond b (refuse 29 0) no_refusal) ≡ refuse 33 n → (a ≡ true) × (n ≡ m)
row_33 m n true b p = (refl, sym (place_of _ _ p))
row_33 m n false true p = absurd (omega (arith, number_of _ _ p))
row_33 m n false false p = absurd (omega (arith, number_of _ _ p))

row_29 : (m : ℕ) (a b : Bool) → cond a (refuse 33 m) (cond b (refuse 29 0) no_refusal) ≡ refuse 29 0 → b ≡ true
row_29 m true b p = absurd (omega (arith, number_of _ _ p))
row_29 m false true p = refl
row_29 m false false p = absurd (omega (arith, number_of _ _ p))

module _ (w : World) (list : List ℕ) (limit : ℕ) (out : List ℕ) where
  each_refuses : Refusing (refusal_rows list (length out))
  each_refuses = ((λ z. omega arith), ((λ z. omega arith), tt))

  refusal_is : (ran_of w list limit (length out)).refusal ≡ refusal_of list (length out)
  unfolding ran_of
  refusal_is = refl

  none_run : ((refusal_of list (length out)).number ≡ 0 → ⊥) → run_of list limit (length out) ≡ []
  unfolding run_of
  none_run h = rw (ne_eqb (refusal_of list (length out)).number 0 h)

  nothing_run : ((refusal_of list (length out)).number ≡ 0 → ⊥) → NothingRun w list limit out
  unfolding ran_of
  nothing_run h =
      let z = none_run h in
      record {
        world = rw z;
        cartridge = rw z;
        lines = rw z;
        kept = ap (λ (xs : List Access). put_front (map heard (answers w xs)) out) z ∙ put_room [] out (omega arith);
      }

  all_run : Silent (refusal_rows list (length out)) → run_of list limit (length out) ≡ take limit (accesses_of list)
  unfolding run_of
  all_run s = rw (silent_first no_refusal s)

  length_29 : refusal_of list (length out) ≡ refuse 29 0 → (ran_of w list limit (length out)).length ≡ reads_of list
  unfolding ran_of
  length_29 e = rw e

  pub exactly : Exactly w list limit out
  exactly =
      record {
        refuses = λ r h. (
          λ e. (refused_exactly (refusal_rows list (length out)) each_refuses r h).0 (sym refusal_is ∙ e),
          λ g. refusal_is ∙ (refused_exactly (refusal_rows list (length out)) each_refuses r h).1 g,
        );
        nothing = λ h. nothing_run (λ z. h (number_of _ _ refusal_is ∙ z));
        accepts = (
          λ e. (accepted_exactly (refusal_rows list (length out)) each_refuses).0 (number_of _ _ (sym refusal_is) ∙ e),
          λ s. number_of _ _ refusal_is ∙ (accepted_exactly (refusal_rows list (length out)) each_refuses).1 s,
        );
        runs = all_run;
        first =
            λ n e.
            let r : (has_malformed list ≡ true) × (n ≡ malformed_line list) = row_33 _ n (has_malformed list) (too_few list (length out)) (sym refusal_is ∙ e) in
            rw r.1 (malformed_first 1 (lines_of list) (ltb-true _ _ r.0));
        needed =
            λ e.
            let q : refusal_of list (length out) ≡ refuse 29 0 = sym refusal_is ∙ e in
            (length_29 q, ltb-true _ _ (row_29 _ (has_malformed list) (too_few list (length out)) q));
      }
