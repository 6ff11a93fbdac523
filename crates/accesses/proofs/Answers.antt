-- What a run answers, from the checking pass: refused with 33 or 29, or the accesses up to the limit.
use Prim.Native.Nat.{ℕ, min, ◌<◌, ◌≤◌}
use mathlib.Core.List.{List, []}
use mathlib.Core.Path.{◌≡◌, refl, sym, ap, ◌∙◌}
use mathlib.Core.Bool.{cond}
use native.Mathlib.Nat.{min-le_right}
use native.Mathlib.Omega.{arith}
use lib.Dec.{eqb, ltb}
use lib.ListN.{length, take}
use borrow.Author.Tests.{lt-ltb, le-ltb, ne_eqb, ltb-true, ltb-false}
use Rattle.basics.specs.declared.Refusal.{Refusal}
use Rattle.basics.specs.Refusals.{refuse, no_refusal}
use Rattle.basics.specs.Laws.Lists.{take_min}
use Rattle.basics.specs.Laws.Puts.{put_room}
use Rattle.basics.specs.Laws.Tests.{cases}
use Rattle.cart.specs.declared.Cartridge.{Cartridge}
use Rattle.cart.specs.Run.{after}
use Rattle.text.specs.Lines.{lines_of}
use Rattle.std.specs.Prelude.{Result, Ok, Err}
use Rattle.accesses.specs.declared.Ran.{Ran}
use Rattle.accesses.specs.Accesses.{accesses_of, malformed_line, reads_of}
use Rattle.accesses.specs.Runs.{refusal_of, run_of, world, left, ran_of, answers_in}
use Rattle.accesses.specs.Code.Steps.{checked_of, Runnable, refused_with, ran_to, answers_to}
use Rattle.accesses.specs.Laws.Accesses.{as_many}

-- what the checking pass says of the list
wrong-is : (list : List ℕ) (q : Refusal) → checked_of list ≡ Err q → (0 < malformed_line list) × (q ≡ refuse 33 (malformed_line list))
unfolding checked_of
wrong-is list r h =
    cases (ltb 0 (malformed_line list)) (λ e. let q : Err (refuse 33 (malformed_line list)) ≡ Err r = rw e at h in (ltb-true _ _ e, cc))
    (λ e. let q : Ok (length (lines_of list), reads_of list) ≡ Err r = rw e at h in cc)

record Good-is (list : List ℕ) (a b : ℕ) : Type 0 where
  none : malformed_line list ≡ 0
  lines : a ≡ length (lines_of list)
  reads : b ≡ reads_of list

good-is : (list : List ℕ) (a b : ℕ) → checked_of list ≡ Ok (a, b) → Good-is list a b
unfolding checked_of
good-is list a b h =
    cases (ltb 0 (malformed_line list)) (λ e. let q : Err (refuse 33 (malformed_line list)) ≡ Ok (a, b) = rw e at h in cc)
    (λ e.
    let q : Ok (length (lines_of list), reads_of list) ≡ Ok (a, b) = rw e at h in
    let pairs : ◌≡◌ {A = ℕ × ℕ} (a, b) (length (lines_of list), reads_of list) = cc in
    record { none = omega (arith, ltb-false 0 (malformed_line list) e); lines = ap (λ (p : ℕ × ℕ). p.0) pairs; reads = ap (λ (p : ℕ × ℕ). p.1) pairs })

abbrev pub Found : Type 0
Found = Result (ℕ × ℕ) Refusal

pub runnable : (list : List ℕ) (k : Found) (lines reads limit n room : ℕ) → k ≡ checked_of list → k ≡ Ok (lines, reads) → n ≡ min limit lines → reads ≤ room → Runnable list n room
runnable list k lines reads limit n room a b e l =
    let g = good-is list lines reads (sym a ∙ b) in
    record { good = g.none; lines = omega (arith, g.lines, min-le_right limit lines); fits = omega (arith, g.reads) }

-- the answer, and what becomes of the RAM, the flash and the buffer
abbrev Answered : Cartridge → List ℕ → ℕ → Ran → List ℕ → List ℕ → List ℕ → List ℕ → List ℕ → List ℕ → Type 0
Answered c list limit r flash₀ ram₀ out₀ flash ram out =
    (r ≡ ran_of (world c flash₀ ram₀) list limit (length out₀)) × (ram ≡ (left (world c flash₀ ram₀) list limit (length out₀)).ram)
    × (flash ≡ (left (world c flash₀ ram₀) list limit (length out₀)).flash) × (out ≡ answers_in (world c flash₀ ram₀) list limit out₀)

module _ (c : Cartridge) (list : List ℕ) (limit : ℕ) (flash ram out : List ℕ) where
  none_run : (q : Refusal) → (q.number ≡ 0 → ⊥) → refusal_of list (length out) ≡ q → run_of list limit (length out) ≡ []
  unfolding run_of
  none_run q h e = rw (e, ne_eqb q.number 0 h)

  -- nothing is run, and all is as it was
  refused_all : (q : Refusal) (n : ℕ) → (q.number ≡ 0 → ⊥) → refusal_of list (length out) ≡ q → n ≡ cond (eqb q.number 29) (reads_of list) 0
      → (r : Ran) → r ≡ refused_with c q n → Answered c list limit r flash ram out flash ram out
  unfolding ran_of
  refused_all q n h e f r g =
      let z = none_run q h e in (
        g ∙ rw (e, z, f),
        rw z,
        rw z,
        rw z (sym (put_room [] out (omega arith))),
      )

  pub answer-33 : (k : Found) (q : Refusal) (r : Ran) → k ≡ checked_of list → k ≡ Err q → r ≡ refused_with c q 0 → Answered c list limit r flash ram out flash ram out
  answer-33 k q r a b e =
      let w = wrong-is list q (sym a ∙ b) in
      let f : refusal_of list (length out) ≡ refuse 33 (malformed_line list) = rw (lt-ltb 0 (malformed_line list) w.0) in
      refused_all (refuse 33 (malformed_line list)) 0 (λ z. omega arith) f refl r (e ∙ ap (λ (x : Refusal). refused_with c x 0) w.1)

  module _ (k : Found) (lines reads : ℕ) (a : k ≡ checked_of list) (b : k ≡ Ok (lines, reads)) where
    good : Good-is list lines reads
    good = good-is list lines reads (sym a ∙ b)

    answer-29 : (q : Refusal) (r : Ran) → length out < reads → q ≡ refuse 29 0 → r ≡ refused_with c q reads → Answered c list limit r flash ram out flash ram out
    answer-29 q r l d e =
        let f : refusal_of list (length out) ≡ refuse 29 0 = rw (good.none, lt-ltb (length out) (reads_of list) (omega (arith, good.reads))) in
        refused_all (refuse 29 0) reads (λ z. omega arith) f good.reads r (e ∙ ap (λ (x : Refusal). refused_with c x reads) d)

    module _ (l : length out < reads) where
      pub short-ran : (q : Refusal) (r : Ran) → q ≡ refuse 29 0 → r ≡ refused_with c q reads → r ≡ ran_of (world c flash ram) list limit (length out)
      short-ran q r d e = (answer-29 q r l d e).0

      pub short-ram : ram ≡ (left (world c flash ram) list limit (length out)).ram
      short-ram = (answer-29 _ _ l refl refl).1

      pub short-flash : flash ≡ (left (world c flash ram) list limit (length out)).flash
      short-flash = (answer-29 _ _ l refl refl).2

      pub short_out : out ≡ answers_in (world c flash ram) list limit out
      short_out = (answer-29 _ _ l refl refl).3

    module _ (n : ℕ) (e : n ≡ min limit lines) (l : reads ≤ length out) where
      pass : refusal_of list (length out) ≡ no_refusal
      pass = rw (good.none, le-ltb (length out) (reads_of list) (omega (arith, good.reads)))

      run_is : run_of list limit (length out) ≡ take n (accesses_of list)
      unfolding run_of
      run_is =
          rw pass (sym (take_min n limit (accesses_of list) (e ∙ ap (min limit) (good.lines ∙ sym (as_many 0 (lines_of list) good.none)))))

      answer-run : (r : Ran) (flash₁ ram₁ out₁ : List ℕ)
          → (r ≡ ran_to (world c flash ram) (take n (accesses_of list))) × (ram₁ ≡ (after (world c flash ram) (take n (accesses_of list))).ram)
          × (flash₁ ≡ (after (world c flash ram) (take n (accesses_of list))).flash) × (out₁ ≡ answers_to (world c flash ram) (take n (accesses_of list)) out)
          → Answered c list limit r flash ram out flash₁ ram₁ out₁
      unfolding ran_of
      answer-run r flash₁ ram₁ out₁ h = (h.0 ∙ rw (run_is, pass), h.1 ∙ rw run_is, h.2 ∙ rw run_is, h.3 ∙ rw run_is)

      pub good-ran : (r : Ran) → r ≡ ran_to (world c flash ram) (take n (accesses_of list)) → r ≡ ran_of (world c flash ram) list limit (length out)
      good-ran r h = (answer-run r _ _ _ (h, refl, refl, refl)).0

      pub good-ram : (x : List ℕ) → x ≡ (after (world c flash ram) (take n (accesses_of list))).ram → x ≡ (left (world c flash ram) list limit (length out)).ram
      good-ram x h = (answer-run _ _ x _ (refl, h, refl, refl)).1

      pub good-flash : (x : List ℕ) → x ≡ (after (world c flash ram) (take n (accesses_of list))).flash → x ≡ (left (world c flash ram) list limit (length out)).flash
      good-flash x h = (answer-run _ x _ _ (refl, refl, h, refl)).2

      pub good-out : (x : List ℕ) → x ≡ answers_to (world c flash ram) (take n (accesses_of list)) out → x ≡ answers_in (world c flash ram) list limit out
      good-out x h = (answer-run _ _ _ x (refl, refl, refl, h)).3

pub ruleset answers-29 = (short-ran, short-ram, short-flash, short_out)

pub ruleset answers-run = (good-ran, good-ram, good-flash, good-out)
